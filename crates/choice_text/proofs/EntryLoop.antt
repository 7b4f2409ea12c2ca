-- Reading entries one after another, as a loop does.
use Rattle.std.proofs.Common.{◌≡◌, ℕ, suc, ◌-◌, ◌+◌, ◌<◌, List, ◌∷◌, length, Ok, Err, refl, sym, ap, ◌∙◌, arith, true, false}
use Rattle.texts.specs.Grammar.{Reading, ◌>>=◌}
use Rattle.texts.specs.Gives.{Fails}
use Rattle.texts.specs.declared.stops.Stop.{Stop}
use Rattle.texts.specs.declared.stops.Stop.TheVariants as stops
use Rattle.cert_text.specs.declared.forms.Form.TheVariants.{Two}
use Rattle.plan_entries.specs.declared.entries.Entry.{Entry}
use Rattle.report_text.specs.Lines.{entry_at}
use Rattle.report_text.proofs.ReportLoop.{with_before}
use Rattle.choice_text.specs.Lines.{entry_follows, entries_from}

one_more : (before : ℕ) (e : Entry) (read : Reading (List ℕ) (List Entry)) → with_before before (read >>= λ es. Ok (e ∷ es.0, es.1)) ≡ with_before (before + 1) read
one_more before e (Ok x) = let n : before + suc (length x.0) ≡ (before + 1) + length x.0 = omega arith in ap (λ (k : ℕ). Ok (k, x.1)) n
one_more before e (Err left) = refl

pub goes_on : (count i : ℕ) (ls after : List (List ℕ)) (e : Entry) (total : Reading (List ℕ) ℕ) → i < count → entry_follows (i + 1) ls ≡ true → entry_at Two ls ≡ Ok (e, after)
    → with_before i (entries_from (count - i) i ls) ≡ total → with_before (i + 1) (entries_from (count - (i + 1)) (i + 1) after) ≡ total
unfolding entries_from
goes_on count i ls after e total lt h g so_far =
    let k : count - i ≡ suc (count - (i + 1)) = omega arith in
    let one : with_before i (entries_from (count - i) i ls) ≡ with_before (i + 1) (entries_from (count - (i + 1)) (i + 1) after) = rw (k, h, g) (one_more i e (entries_from (count - (i + 1)) (i + 1) after)) in
    sym one ∙ so_far

pub ends_entry : (s : Stop) (count i : ℕ) (ls : List (List ℕ)) (total : Reading (List ℕ) ℕ) → i < count → entry_follows (i + 1) ls ≡ true → Fails s (entry_at Two ls) → with_before i (entries_from (count - i) i ls) ≡ total → Fails s total
unfolding entries_from
ends_entry stops.Memory count i ls total lt h g so_far = tt
ends_entry (stops.Left f) count i ls total lt h g so_far =
    let k : count - i ≡ suc (count - (i + 1)) = omega arith in
    let one : with_before i (entries_from (count - i) i ls) ≡ Err f = rw (k, h, g) refl in
    sym so_far ∙ one

pub none_follows : (count i : ℕ) (ls : List (List ℕ)) (total : Reading (List ℕ) ℕ) → i < count → entry_follows (i + 1) ls ≡ false → with_before i (entries_from (count - i) i ls) ≡ total → total ≡ Ok (i, ls)
unfolding entries_from
none_follows count i ls total lt h so_far =
    let k : count - i ≡ suc (count - (i + 1)) = omega arith in
    let z : i + 0 ≡ i = omega arith in
    let one : with_before i (entries_from (count - i) i ls) ≡ Ok (i, ls) = rw (k, h) (ap (λ (n : ℕ). Ok (n, ls)) z) in
    sym so_far ∙ one

-- after the most
pub is_last : (count i : ℕ) (ls : List (List ℕ)) (total : Reading (List ℕ) ℕ) → i ≡ count → with_before i (entries_from (count - i) i ls) ≡ total → total ≡ Ok (count, ls)
unfolding entries_from
is_last count i ls total le so_far =
    let k : count - count ≡ 0 = omega arith in
    let z : count + 0 ≡ count = omega arith in
    let one : with_before i (entries_from (count - i) i ls) ≡ Ok (count, ls) = rw (le, k) (ap (λ (m : ℕ). Ok (m, ls)) z) in
    sym so_far ∙ one
