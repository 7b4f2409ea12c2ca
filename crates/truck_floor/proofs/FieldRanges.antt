-- The fields of a record from one place up to another.
use Rattle.std.proofs.Common.{◌≡◌, ℕ, zero, suc, ◌+◌, ◌-◌, ◌<◌, ◌≤◌, List, [], ◌∷◌, ◌++◌, length, get_or, take, drop, Some, sym, ap, ◌∙◌, arith, length-drop, append_assoc}
use Rattle.std.proofs.lemmas.List.{take_more, get_or-drop}
use Rattle.csv.specs.Records.{field_at}
use Rattle.order_reader.specs.Records.{Fields}

-- a field that is there
there : (fields : Fields) (at : ℕ) (f : List ℕ) → field_at fields at ≡ Some f → (at < length fields) × (get_or fields at [] ≡ f)
unfolding field_at
there [] at f is = absurd cc
there (g ∷ gs) zero f is = (omega arith, cc)
there (g ∷ gs) (suc at) f is = let own = there gs at f is in (omega (arith, own.0), own.1)

-- one field more
more_taken : (fields : Fields) (from at : ℕ) (f : List ℕ) → from ≤ at → field_at fields at ≡ Some f
    → take (at + 1 - from) (drop from fields) ≡ take (at - from) (drop from fields) ++ f ∷ []
more_taken fields from at f le is =
    let own = there fields at f is in
    let lt = own.0 in
    let next : at + 1 - from ≡ at - from + 1 = omega arith in
    let back : from + (at - from) ≡ at = omega arith in
    let size = length-drop from fields in
    ap (λ n. take n (drop from fields)) next ∙ take_more (drop from fields) (at - from) [] (omega arith)
    ∙ ap (λ (g : List ℕ). take (at - from) (drop from fields) ++ g ∷ []) (get_or-drop from fields (at - from) [] ∙ ap (λ n. get_or fields n []) back ∙ own.1)

-- one field more behind others, in a record that has no part of a field
pub pushed : (start out new : Fields) (part field : List ℕ) (fields : Fields) (from at : ℕ) → from ≤ at → field_at fields at ≡ Some field → part ≡ []
    → out ≡ start ++ take (at - from) (drop from fields) → new ≡ out ++ (part ++ field) ∷ [] → new ≡ start ++ take (at + 1 - from) (drop from fields)
pushed start out new part field fields from at le is none before now =
    now ∙ ap (λ (p : List ℕ). out ++ (p ++ field) ∷ []) none ∙ ap (λ (t : Fields). t ++ field ∷ []) before
    ∙ append_assoc start (take (at - from) (drop from fields)) (field ∷ []) ∙ ap (λ (t : Fields). start ++ t) (sym (more_taken fields from at field le is))
