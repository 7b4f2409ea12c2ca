-- Reading entries one after the other, as a loop does.
use Rattle.std.proofs.Common.{◌≡◌, ℕ, suc, ◌-◌, ◌+◌, ◌<◌, List, ◌∷◌, length, Ok, Err, refl, sym, ap, ◌∙◌, arith}
use Rattle.texts.specs.Grammar.{Reading, ◌>>=◌, first_by}
use Rattle.texts.specs.Gives.{Fails}
use Rattle.texts.specs.declared.stops.Stop.{Stop}
use Rattle.texts.specs.declared.stops.Stop.TheVariants as stops
use Rattle.cert_text.specs.declared.forms.Form.{Form}
use Rattle.plan_entries.specs.declared.entries.Entry.{Entry}
use Rattle.report_text.specs.Lines.{entry_behind}
use Rattle.report_text.specs.NextWords.{done_of, next_of}
use Rattle.report_text.specs.ReportLines.{entries_from, counted}
use Rattle.report_text.specs.declared.nexts.Next.TheVariants.{Done, More}

-- how many there are with so many before
abbrev pub with_before : ℕ → Reading (List ℕ) (List Entry) → Reading (List ℕ) ℕ
with_before before (Ok x) = Ok (before + length x.0, x.1)
with_before before (Err left) = Err left

pub starts : (read : Reading (List ℕ) (List Entry)) → with_before 0 read ≡ (read >>= counted)
starts (Ok x) = let z : 0 + length x.0 ≡ length x.0 = omega arith in ap (λ (n : ℕ). Ok (n, x.1)) z
starts (Err left) = refl

one_more : (before : ℕ) (e : Entry) (read : Reading (List ℕ) (List Entry)) → with_before before (read >>= λ es. Ok (e ∷ es.0, es.1)) ≡ with_before (before + 1) read
one_more before e (Ok x) = let n : before + suc (length x.0) ≡ (before + 1) + length x.0 = omega arith in ap (λ (k : ℕ). Ok (k, x.1)) n
one_more before e (Err left) = refl

pub goes_on : (form : Form) (count i : ℕ) (ls mid after : List (List ℕ)) (e : Entry) (total : Reading (List ℕ) ℕ) → i < count → first_by (next_of i) ls ≡ Ok (More, mid) → entry_behind form (i + 1) mid ≡ Ok (e, after)
    → with_before i (entries_from form (count - i) i ls) ≡ total → with_before (i + 1) (entries_from form (count - (i + 1)) (i + 1) after) ≡ total
unfolding entries_from
goes_on form count i ls mid after e total lt h g so_far =
    let k : count - i ≡ suc (count - (i + 1)) = omega arith in
    let one : with_before i (entries_from form (count - i) i ls) ≡ with_before (i + 1) (entries_from form (count - (i + 1)) (i + 1) after) = rw (k, h, g) (one_more i e (entries_from form (count - (i + 1)) (i + 1) after)) in
    sym one ∙ so_far

pub ends_next : (left : ℕ) (form : Form) (count i : ℕ) (ls : List (List ℕ)) (total : Reading (List ℕ) ℕ) → i < count → first_by (next_of i) ls ≡ Err left → with_before i (entries_from form (count - i) i ls) ≡ total → total ≡ Err left
unfolding entries_from
ends_next left form count i ls total lt h so_far =
    let k : count - i ≡ suc (count - (i + 1)) = omega arith in
    let one : with_before i (entries_from form (count - i) i ls) ≡ Err left = rw (k, h) refl in
    sym so_far ∙ one

pub ends_entry : (s : Stop) (form : Form) (count i : ℕ) (ls mid : List (List ℕ)) (total : Reading (List ℕ) ℕ) → i < count → first_by (next_of i) ls ≡ Ok (More, mid) → Fails s (entry_behind form (i + 1) mid) → with_before i (entries_from form (count - i) i ls) ≡ total → Fails s total
unfolding entries_from
ends_entry stops.Memory form count i ls mid total lt h g so_far = tt
ends_entry (stops.Left f) form count i ls mid total lt h g so_far =
    let k : count - i ≡ suc (count - (i + 1)) = omega arith in
    let one : with_before i (entries_from form (count - i) i ls) ≡ Err f = rw (k, h, g) refl in
    sym so_far ∙ one

pub is_done : (form : Form) (count i : ℕ) (ls after : List (List ℕ)) (total : Reading (List ℕ) ℕ) → i < count → first_by (next_of i) ls ≡ Ok (Done, after) → with_before i (entries_from form (count - i) i ls) ≡ total → total ≡ Ok (i, after)
unfolding entries_from
is_done form count i ls after total lt h so_far =
    let k : count - i ≡ suc (count - (i + 1)) = omega arith in
    let z : i + 0 ≡ i = omega arith in
    let one : with_before i (entries_from form (count - i) i ls) ≡ Ok (i, after) = rw (k, h) (ap (λ (n : ℕ). Ok (n, after)) z) in
    sym so_far ∙ one

-- behind the most
pub ends_last : (left : ℕ) (form : Form) (count i : ℕ) (ls : List (List ℕ)) (total : Reading (List ℕ) ℕ) → i ≡ count → first_by (done_of count) ls ≡ Err left → with_before i (entries_from form (count - i) i ls) ≡ total → total ≡ Err left
unfolding entries_from
ends_last left form count i ls total le h so_far =
    let k : count - count ≡ 0 = omega arith in
    let one : with_before i (entries_from form (count - i) i ls) ≡ Err left = rw (le, k, h) refl in
    sym so_far ∙ one

pub is_last : (form : Form) (count i n : ℕ) (ls after : List (List ℕ)) (total : Reading (List ℕ) ℕ) → i ≡ count → first_by (done_of count) ls ≡ Ok (n, after) → with_before i (entries_from form (count - i) i ls) ≡ total → total ≡ Ok (count, after)
unfolding entries_from
is_last form count i n ls after total le h so_far =
    let k : count - count ≡ 0 = omega arith in
    let z : count + 0 ≡ count = omega arith in
    let one : with_before i (entries_from form (count - i) i ls) ≡ Ok (count, after) = rw (le, k, h) (ap (λ (m : ℕ). Ok (m, after)) z) in
    sym so_far ∙ one
