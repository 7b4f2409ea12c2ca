-- Reading one thing after the other, as a loop does.
use Rattle.std.proofs.Common.{◌≡◌, ℕ, suc, ◌-◌, ◌+◌, ◌≤◌, ◌<◌, List, [], ◌∷◌, ◌++◌, length, get_or, drop, Ok, Err, refl, sym, ap, ◌∙◌, append_assoc, arith, add-one}
use Rattle.std.proofs.Math.Seq.{drop-cons}
use Rattle.std.proofs.lemmas.List.{append-nil, drop_all}
use Rattle.texts.specs.Grammar.{Reading, ◌>>=◌, first_by}
use Rattle.texts.specs.Gives.{Fails}
use Rattle.texts.specs.declared.stops.Stop.{Stop}
use Rattle.texts.specs.declared.stops.Stop.TheVariants as stops
use Rattle.plan_geometry.specs.declared.spots.Spot.{Spot}
use Rattle.contact_rules.specs.declared.rules.Rule.{Rule}
use Rattle.stack_builder.specs.declared.lists.UnmetRule.{UnmetRule}
use Rattle.plan_entries.specs.declared.listed.Listed.{Listed}
use Rattle.listing_text.specs.Words.{case_of, rule_of}
use Rattle.listing_text.specs.Lines.{cases_from, layer_from, listed_from, unmet_from}

-- what was read before, and what is still read
abbrev pub with_front : {X : Type 0} → List X → Reading (List ℕ) (List X) → Reading (List ℕ) (List X)
with_front front read = read >>= λ x. Ok (front ++ x.0, x.1)

regroup : {X : Type 0} (front : List X) (c : X) (read : Reading (List ℕ) (List X)) → with_front front (read >>= λ x. Ok (c ∷ x.0, x.1)) ≡ with_front (front ++ c ∷ []) read
regroup {X} front c (Ok x) = ap (λ (cs : List X). Ok (cs, x.1)) (simp append_assoc)
regroup front c (Err f) = refl

-- ---- cases

pub cases_go_on : (front : List Spot) (count i : ℕ) (ls after : List (List ℕ)) (c : Spot) (total : Reading (List ℕ) (List Spot)) → i < count → first_by case_of ls ≡ Ok (c, after)
    → with_front front (cases_from (count - i) ls) ≡ total → with_front (front ++ c ∷ []) (cases_from (count - (i + 1)) after) ≡ total
unfolding cases_from
cases_go_on front count i ls after c total lt h so_far =
    let k : count - i ≡ suc (count - (i + 1)) = omega arith in
    let one : with_front front (cases_from (count - i) ls) ≡ with_front (front ++ c ∷ []) (cases_from (count - (i + 1)) after) = rw (k, h) (regroup front c (cases_from (count - (i + 1)) after)) in
    sym one ∙ so_far

pub cases_end : (left : ℕ) (front : List Spot) (count i : ℕ) (ls : List (List ℕ)) (total : Reading (List ℕ) (List Spot)) → i < count → first_by case_of ls ≡ Err left
    → with_front front (cases_from (count - i) ls) ≡ total → total ≡ Err left
unfolding cases_from
cases_end left front count i ls total lt h so_far =
    let k : count - i ≡ suc (count - (i + 1)) = omega arith in
    let one : with_front front (cases_from (count - i) ls) ≡ Err left = rw (k, h) refl in
    sym so_far ∙ one

pub cases_done : (front : List Spot) (count i : ℕ) (ls : List (List ℕ)) (total : Reading (List ℕ) (List Spot)) → count ≤ i → with_front front (cases_from (count - i) ls) ≡ total → total ≡ Ok (front, ls)
unfolding cases_from
cases_done front count i ls total le so_far =
    let k : count - i ≡ 0 = omega arith in
    let one : with_front front (cases_from (count - i) ls) ≡ Ok (front, ls) = rw k (ap (λ (cs : List Spot). Ok (cs, ls)) (append-nil front)) in
    sym so_far ∙ one

-- ---- layers, numbered from 1

pub layers_go_on : (cases : ℕ) (front : List Listed) (count i : ℕ) (ls after : List (List ℕ)) (c : Listed) (total : Reading (List ℕ) (List Listed)) → i < count → layer_from cases (i + 1) ls ≡ Ok (c, after)
    → with_front front (listed_from cases (count - i) (i + 1) ls) ≡ total → with_front (front ++ c ∷ []) (listed_from cases (count - (i + 1)) ((i + 1) + 1) after) ≡ total
unfolding listed_from
layers_go_on cases front count i ls after c total lt h so_far =
    let k : count - i ≡ suc (count - (i + 1)) = omega arith in
    let one : with_front front (listed_from cases (count - i) (i + 1) ls) ≡ with_front (front ++ c ∷ []) (listed_from cases (count - (i + 1)) ((i + 1) + 1) after) = rw (k, h) (regroup front c (listed_from cases (count - (i + 1)) ((i + 1) + 1) after)) in
    sym one ∙ so_far

pub layers_end : (e : Stop) (cases : ℕ) (front : List Listed) (count i : ℕ) (ls : List (List ℕ)) (total : Reading (List ℕ) (List Listed)) → i < count → Fails e (layer_from cases (i + 1) ls)
    → with_front front (listed_from cases (count - i) (i + 1) ls) ≡ total → Fails e total
unfolding listed_from
layers_end stops.Memory cases front count i ls total lt h so_far = tt
layers_end (stops.Left f) cases front count i ls total lt h so_far =
    let k : count - i ≡ suc (count - (i + 1)) = omega arith in
    let one : with_front front (listed_from cases (count - i) (i + 1) ls) ≡ Err f = rw (k, h) refl in
    sym so_far ∙ one

pub layers_done : (cases : ℕ) (front : List Listed) (count i : ℕ) (ls : List (List ℕ)) (total : Reading (List ℕ) (List Listed)) → count ≤ i → with_front front (listed_from cases (count - i) (i + 1) ls) ≡ total → total ≡ Ok (front, ls)
unfolding listed_from
layers_done cases front count i ls total le so_far =
    let k : count - i ≡ 0 = omega arith in
    let one : with_front front (listed_from cases (count - i) (i + 1) ls) ≡ Ok (front, ls) = rw k (ap (λ (cs : List Listed). Ok (cs, ls)) (append-nil front)) in
    sym so_far ∙ one

-- ---- unmet rules

pub rules_go_on : (front : List UnmetRule) (rules : List Rule) (i : ℕ) (d : Rule) (ls after : List (List ℕ)) (u : UnmetRule) (total : Reading (List ℕ) (List UnmetRule)) → i < length rules → first_by (rule_of (get_or rules i d)) ls ≡ Ok (u, after)
    → with_front front (unmet_from (drop i rules) ls) ≡ total → with_front (front ++ u ∷ []) (unmet_from (drop (i + 1) rules) after) ≡ total
unfolding unmet_from
rules_go_on front rules i d ls after u total lt h so_far =
    let one : with_front front (unmet_from (drop i rules) ls) ≡ with_front (front ++ u ∷ []) (unmet_from (drop (i + 1) rules) after) = rw (drop-cons rules i d lt, add-one, h) (regroup front u (unmet_from (drop (suc i) rules) after)) in
    sym one ∙ so_far

pub rules_end : (left : ℕ) (front : List UnmetRule) (rules : List Rule) (i : ℕ) (d : Rule) (ls : List (List ℕ)) (total : Reading (List ℕ) (List UnmetRule)) → i < length rules → first_by (rule_of (get_or rules i d)) ls ≡ Err left
    → with_front front (unmet_from (drop i rules) ls) ≡ total → total ≡ Err left
unfolding unmet_from
rules_end left front rules i d ls total lt h so_far =
    let one : with_front front (unmet_from (drop i rules) ls) ≡ Err left = rw (drop-cons rules i d lt, h) refl in
    sym so_far ∙ one

pub rules_done : (front : List UnmetRule) (rules : List Rule) (i : ℕ) (ls : List (List ℕ)) (total : Reading (List ℕ) (List UnmetRule)) → length rules ≤ i → with_front front (unmet_from (drop i rules) ls) ≡ total → total ≡ Ok (front, ls)
unfolding unmet_from
rules_done front rules i ls total le so_far =
    let one : with_front front (unmet_from (drop i rules) ls) ≡ Ok (front, ls) = rw (drop_all i rules le) (ap (λ (us : List UnmetRule). Ok (us, ls)) (append-nil front)) in
    sym so_far ∙ one
