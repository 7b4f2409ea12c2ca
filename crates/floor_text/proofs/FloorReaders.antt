-- The text of a floor is read exactly, line by line.
use Rattle.std.proofs.Common.{◌≡◌, ℕ, zero, suc, ◌≤◌, ◌+◌, ◌*◌, List, [], ◌∷◌, ◌++◌, length, Option, Some, None, Result, Ok, Err, refl, sym, ap, subst, ◌∙◌, append_assoc, arith, Bool, true, false, ◌⊎◌, inl, inr}
use Rattle.std.specs.Prelude.{codes, is_some, cond}
use Rattle.std.proofs.lemmas.Bool.{cases_Bool}
use Rattle.std.proofs.lemmas.List.Concat.{flat_map-cons}
use Rattle.texts.specs.Grammar.{Reads, Reading, ◌>>=◌, first_by, or_stop}
use Rattle.texts.proofs.Readers.{reads_then, reads_as}
use Rattle.cert_text.specs.declared.forms.Form.TheVariants.{Two}
use Rattle.plan_entries.specs.declared.entries.Entry.{Entry}
use Rattle.report_text.specs.Text.{entry_lines}
use Rattle.report_text.specs.Lines.{behind_line, entry_behind, entry_at}
use Rattle.report_text.specs.Reports.{done_line}
use Rattle.report_text.proofs.EntryWords.{IsWithin, is_within_from}
use Rattle.report_text.proofs.EntryReaders.{by_line, reads_line_alone, carried, reads_into, behind_number, behind_reads, entry_split}
use Rattle.truck_floor.specs.declared.totals.TotalLine.{TotalLine}
use Rattle.truck_floor.specs.Text.{total_line, total_lines, IsTotalLine}
use Rattle.truck_floor.specs.Words.{total_of}
use Rattle.truck_floor.proofs.TotalLines.{first_reads}
use Rattle.choice_text.specs.Words.{numbered_of}
use Rattle.choice_text.proofs.FirstSigns.{StartsOtherwise, by_first, reads_by_first}
use Rattle.choice_text.proofs.NumberedLines.{numbered_line, numbered_reads, passes_line, only_line}
use Rattle.choice_text.proofs.ChoiceReaders.{first_byte, entry_here}
use Rattle.floor_text.specs.declared.rows.FloorRow.{FloorRow}
use Rattle.floor_text.specs.Text.{head_line, row_lines, rows_lines, floor_lines, IsNumbered, IsRow, AreRowsFrom, IsFloor}
use Rattle.floor_text.specs.Lines.{numbered_entry_at, row_at, row_and, rows_from, floor_at}

-- ---- an entry of a known number

abbrev entry_word : List ℕ
entry_word = codes "entry"

abbrev pub entry_line : ℕ → List ℕ
entry_line number = numbered_line entry_word number

abbrev pub is_entry_line : ℕ → List ℕ → Bool
is_entry_line number line = is_some (numbered_of entry_word number line)

-- its first line, and what is after it
abbrev with_number : ℕ → List (List ℕ) → Reading (List ℕ) Entry
with_number number ls = first_by (numbered_of entry_word number) ls >>= λ n. entry_behind Two number n.1

numbered_same : (number : ℕ) → IsWithin 256 number → number ≤ 9999999999 → (ls : List (List ℕ)) → numbered_entry_at number ls ≡ with_number number ls
unfolding numbered_entry_at
numbered_same number within le [] = refl
numbered_same number within le (l ∷ ls) = by (numbered_of entry_word number l) refl
  where
    by : (o : Option ℕ) → numbered_of entry_word number l ≡ o → cond (is_entry_line number l) (entry_at Two (l ∷ ls)) (Err (suc (length ls))) ≡ (or_stop (numbered_of entry_word number l) ls >>= λ n. entry_behind Two number n.1)
    by (Some n) e = rw e (entry_here number l ls within (only_line entry_word number refl le l (ap (λ (o : Option ℕ). is_some o) e)))
    by None e = rw e refl

numbered_entry_reads : (number : ℕ) → IsWithin 256 number → number ≤ 9999999999 → Reads (entry_lines Two) (IsNumbered number) (numbered_entry_at number)
numbered_entry_reads number within le =
    reads_as (λ e. entry_line number ∷ behind_number Two e) (entry_lines Two) (IsNumbered number) (IsNumbered number) (with_number number) (numbered_entry_at number)
    (reads_then (λ n. entry_line n ∷ []) (λ n. n ≡ number) (first_by (numbered_of entry_word number)) (λ e. number) (behind_number Two) (IsNumbered number) (λ n ls. entry_behind Two number ls)
    (by_line entry_line (λ n. n ≡ number) (numbered_of entry_word number) (numbered_reads entry_word number refl le) number refl)
    (λ n h. reads_as (behind_number Two) (behind_number Two) (IsNumbered number) (λ e. IsNumbered number e × (number ≡ n)) (entry_behind Two number) (entry_behind Two number)
    (behind_reads Two number within) (λ e f. f.0) (λ e f. (f, sym h)) (λ e f. refl) (λ ls. refl))
    (λ e f. refl))
    (λ e f. f) (λ e f. f) (λ e f. entry_split Two e ∙ ap (λ (n : ℕ). entry_line n ∷ behind_number Two e) f.1) (numbered_same number within le)

-- ---- a row, after the line of its first number

abbrev row_of : Entry → Entry → TotalLine → FloorRow
row_of floor load total = record { floor = floor; load = load; total = total }

-- the load and the total, behind the floor
abbrev row_on : ℕ → Entry → List (List ℕ) → Reading (List ℕ) FloorRow
row_on before floor ls = numbered_entry_at (2 * before + 2) ls >>= λ load. first_by total_of load.1 >>= λ total. Ok (row_of floor load.0 total.0, total.1)

abbrev row_behind : ℕ → List (List ℕ) → Reading (List ℕ) FloorRow
row_behind before ls = entry_behind Two (2 * before + 1) ls >>= λ floor. row_on before floor.0 floor.1

abbrev row_rest : FloorRow → List (List ℕ)
row_rest r = entry_lines Two r.load ++ total_line r.total ∷ []

abbrev row_tail : FloorRow → List (List ℕ)
row_tail r = behind_number Two r.floor ++ row_rest r

total_reads : (before : ℕ) (floor load : Entry) → IsNumbered (2 * before + 1) floor → IsNumbered (2 * before + 2) load
    → Reads (λ (r : FloorRow). total_line r.total ∷ []) (λ r. (IsRow before r × (r.floor ≡ floor)) × (r.load ≡ load)) (λ ls. first_by total_of ls >>= λ total. Ok (row_of floor load total.0, total.1))
total_reads before floor load is_floor is_load =
    reads_into (row_of floor load) total_lines IsTotalLine (first_by total_of) (λ (r : FloorRow). total_line r.total ∷ []) (λ r. (IsRow before r × (r.floor ≡ floor)) × (r.load ≡ load))
    first_reads (λ t f. refl) (λ t f. ((record { floor = is_floor; load = is_load; total = f }, refl), refl))
    (λ r f. (r.total, rw (← f.0.1, ← f.1) refl, f.0.0.total))

load_reads : (before : ℕ) → before + 1 ≤ 128 → (floor : Entry) → IsNumbered (2 * before + 1) floor → Reads row_rest (λ r. IsRow before r × (r.floor ≡ floor)) (row_on before floor)
load_reads before le floor is_floor =
    reads_then (entry_lines Two) (IsNumbered (2 * before + 2)) (numbered_entry_at (2 * before + 2)) (λ (r : FloorRow). r.load) (λ (r : FloorRow). total_line r.total ∷ []) (λ r. IsRow before r × (r.floor ≡ floor))
    (λ load ls. first_by total_of ls >>= λ total. Ok (row_of floor load total.0, total.1))
    (numbered_entry_reads (2 * before + 2) (is_within_from 256 (2 * before + 2) (omega arith) (omega arith)) (omega arith))
    (λ load is_load. total_reads before floor load is_floor is_load)
    (λ r f. f.0.load)

row_behind_reads : (before : ℕ) → before + 1 ≤ 128 → Reads row_tail (IsRow before) (row_behind before)
row_behind_reads before le =
    reads_then (behind_number Two) (IsNumbered (2 * before + 1)) (entry_behind Two (2 * before + 1)) (λ (r : FloorRow). r.floor) row_rest (IsRow before) (row_on before)
    (behind_reads Two (2 * before + 1) (is_within_from 256 (2 * before + 1) (omega arith) (omega arith)))
    (load_reads before le)
    (λ r f. f.floor)

-- a row whose first line is known is read after that line
row_here : (before : ℕ) (l : List ℕ) (ls : List (List ℕ)) → IsWithin 256 (2 * before + 1) → 2 * before + 1 ≤ 9999999999 → is_entry_line (2 * before + 1) l ≡ true → row_at before (l ∷ ls) ≡ row_behind before ls
unfolding row_at numbered_entry_at
row_here before l ls within le y =
    let here : entry_at Two (l ∷ ls) ≡ entry_behind Two (2 * before + 1) ls = entry_here (2 * before + 1) l ls within (only_line entry_word (2 * before + 1) refl le l y) in
    rw (y, here) refl

-- ---- what is after so many rows

abbrev done_word : List ℕ
done_word = codes "done"

abbrev pub rest_lines : ℕ → List FloorRow → List (List ℕ)
rest_lines before rows = rows_lines rows ++ done_line (2 * (before + length rows)) ∷ []

-- at most so many rows, numbered on
abbrev pub IsRest : ℕ → ℕ → List FloorRow → Type 0
IsRest before most rows = (length rows ≤ most) × AreRowsFrom before rows

-- the rows, then the line of the number of entries
abbrev pub with_end : ℕ → List FloorRow × List (List ℕ) → Reading (List ℕ) (List FloorRow)
with_end before rows = first_by (numbered_of done_word (2 * (before + length rows.0))) rows.1 >>= carried (λ n. rows.0)

abbrev pub rest_at : ℕ → ℕ → List (List ℕ) → Reading (List ℕ) (List FloorRow)
rest_at most before ls = rows_from most before ls >>= with_end before

-- ---- no row follows

abbrev no_rows : ℕ → List FloorRow
no_rows n = []

abbrev HasNone : ℕ → ℕ → List FloorRow → Type 0
HasNone before most rows = IsRest before most rows × (rows ≡ [])

abbrev none_at : ℕ → List (List ℕ) → Reading (List ℕ) (List FloorRow)
none_at before ls = first_by (numbered_of done_word (2 * before)) ls >>= carried no_rows

none_reads : (before most : ℕ) → before ≤ 128 → Reads (rest_lines before) (HasNone before most) (none_at before)
none_reads before most le =
    reads_into no_rows (λ n. done_line n ∷ []) (λ n. n ≡ 2 * before) (first_by (numbered_of done_word (2 * before))) (rest_lines before) (HasNone before most)
    (by_line (numbered_line done_word) (λ n. n ≡ 2 * before) (numbered_of done_word (2 * before)) (numbered_reads done_word (2 * before) refl (omega arith)) (2 * before) refl)
    (λ n f. let z : 2 * (before + 0) ≡ n = omega (arith, f) in ap (λ (k : ℕ). done_line k ∷ []) z)
    (λ n f. ((omega arith, tt), refl))
    (λ rows h. (2 * before, h.1, refl))

-- ---- a row follows

abbrev SomeRow : List FloorRow → Type 0
SomeRow [] = ⊥
SomeRow (r ∷ rs) = Unit {0}

abbrev HasSome : ℕ → ℕ → List FloorRow → Type 0
HasSome before most rows = IsRest before most rows × SomeRow rows

-- a row in front of the others, and these two by themselves
abbrev onto : FloorRow × List FloorRow → List FloorRow
onto x = x.0 ∷ x.1

abbrev both_of : FloorRow → List FloorRow → FloorRow × List FloorRow
both_of r rs = (r, rs)

-- after the line of the row's first number
abbrev after_lines : ℕ → List FloorRow → List (List ℕ)
after_lines before [] = []
after_lines before (r ∷ rs) = row_tail r ++ rest_lines (before + 1) rs

abbrev both_at : ℕ → ℕ → List (List ℕ) → Reading (List ℕ) (FloorRow × List FloorRow)
both_at most before ls = row_behind before ls >>= λ r. rest_at most (before + 1) r.1 >>= carried (both_of r.0)

abbrev after_at : ℕ → ℕ → List (List ℕ) → Reading (List ℕ) (List FloorRow)
after_at most before ls = both_at most before ls >>= carried onto

abbrev AreBoth : ℕ → ℕ → FloorRow × List FloorRow → Type 0
AreBoth before most x = IsRow before x.0 × IsRest (before + 1) most x.1

abbrev both_lines : ℕ → FloorRow × List FloorRow → List (List ℕ)
both_lines before x = row_tail x.0 ++ rest_lines (before + 1) x.1

both_reads : (before most : ℕ) → before + 1 ≤ 128 → Reads (rest_lines (before + 1)) (IsRest (before + 1) most) (rest_at most (before + 1)) → Reads (both_lines before) (AreBoth before most) (both_at most before)
both_reads before most le P =
    reads_then row_tail (IsRow before) (row_behind before) (λ x. x.0) (λ x. rest_lines (before + 1) x.1) (AreBoth before most) (λ r ls. rest_at most (before + 1) ls >>= carried (both_of r))
    (row_behind_reads before le)
    (λ r hr. reads_into (both_of r) (rest_lines (before + 1)) (IsRest (before + 1) most) (rest_at most (before + 1)) (λ x. rest_lines (before + 1) x.1) (λ x. AreBoth before most x × (x.0 ≡ r))
    P (λ rs g. refl) (λ rs g. ((hr, g), refl)) (λ x g. (x.1, ap (λ (d : FloorRow). both_of d x.1) g.1, g.0.1)))
    (λ x g. g.0)

after_reads : (before most : ℕ) → before + 1 ≤ 128 → Reads (rest_lines (before + 1)) (IsRest (before + 1) most) (rest_at most (before + 1)) → Reads (after_lines before) (HasSome before (suc most)) (after_at most before)
after_reads before most le P =
    reads_into onto (both_lines before) (AreBoth before most) (both_at most before) (after_lines before) (HasSome before (suc most))
    (both_reads before most le P) (λ x g. refl) made parted
  where
    made : (x : FloorRow × List FloorRow) → AreBoth before most x → HasSome before (suc most) (onto x)
    made x g = let few = g.1.0 in ((omega arith, (g.0, g.1.1)), tt)

    parted : (rows : List FloorRow) → HasSome before (suc most) rows → (x : FloorRow × List FloorRow) × (rows ≡ onto x) × AreBoth before most x
    parted [] g = absurd g.1
    parted (r ∷ rs) g = let few = g.0.0 in (both_of r rs, refl, (g.0.1.0, (omega arith, g.0.1.1)))

-- ---- either of them

none_same : (before : ℕ) (ls : List (List ℕ)) → with_end before ([], ls) ≡ none_at before ls
none_same before ls =
    let z : 2 * (before + 0) ≡ 2 * before = omega arith in
    ap (λ (n : ℕ). first_by (numbered_of done_word n) ls >>= carried no_rows) z

-- the row that was read, and the others
abbrev with_others : FloorRow → Reading (List ℕ) (List FloorRow) → Reading (List ℕ) (List FloorRow)
with_others r read = (read >>= carried (both_of r)) >>= carried onto

one_more : (before : ℕ) (r : FloorRow) (rs : List FloorRow) (ls : List (List ℕ)) → with_end before (r ∷ rs, ls) ≡ with_others r (with_end (before + 1) (rs, ls))
one_more before r rs ls =
    let n : 2 * (before + suc (length rs)) ≡ 2 * ((before + 1) + length rs) = omega arith in
    ap (λ (k : ℕ). first_by (numbered_of done_word k) ls >>= carried (λ (m : ℕ). r ∷ rs)) n ∙ by (first_by (numbered_of done_word (2 * ((before + 1) + length rs))) ls)
  where
    by : (d : Reading (List ℕ) ℕ) → (d >>= carried (λ (m : ℕ). r ∷ rs)) ≡ with_others r (d >>= carried (λ (m : ℕ). rs))
    by (Ok d) = refl
    by (Err left) = refl

some_same : (before most : ℕ) (l : List ℕ) (ls : List (List ℕ)) → IsWithin 256 (2 * before + 1) → 2 * before + 1 ≤ 9999999999 → is_entry_line (2 * before + 1) l ≡ true
    → (row_and before (rows_from most (before + 1)) (l ∷ ls) >>= with_end before) ≡ after_at most before ls
some_same before most l ls within le y =
    ap (λ (r : Reading (List ℕ) FloorRow). (r >>= λ r. rows_from most (before + 1) r.1 >>= λ rs. Ok (r.0 ∷ rs.0, rs.1)) >>= with_end before) (row_here before l ls within le y) ∙ by (row_behind before ls)
  where
    others : (r : FloorRow) (read : Reading (List ℕ) (List FloorRow)) → ((read >>= λ rs. Ok (r ∷ rs.0, rs.1)) >>= with_end before) ≡ with_others r (read >>= with_end (before + 1))
    others r (Ok rs) = one_more before r rs.0 rs.1
    others r (Err left) = refl

    by : (r : Reading (List ℕ) FloorRow) → ((r >>= λ r. rows_from most (before + 1) r.1 >>= λ rs. Ok (r.0 ∷ rs.0, rs.1)) >>= with_end before) ≡ ((r >>= λ r. rest_at most (before + 1) r.1 >>= carried (both_of r.0)) >>= carried onto)
    by (Ok r) = others r.0 (rows_from most (before + 1) r.1)
    by (Err left) = refl

either_same : (before most : ℕ) → IsWithin 256 (2 * before + 1) → 2 * before + 1 ≤ 9999999999 → (ls : List (List ℕ)) → rest_at (suc most) before ls ≡ by_first (is_entry_line (2 * before + 1)) (after_at most before) (none_at before) ls
unfolding rows_from
either_same before most within le [] = none_same before []
either_same before most within le (l ∷ ls) = elim (cases_Bool (is_entry_line (2 * before + 1) l)) [
  | inl y ↦ rw y (some_same before most l ls within le y)
  | inr n ↦ rw n (none_same before (l ∷ ls))
]

done_is_no_entry : (number n : ℕ) → number ≤ 9999999999 → is_entry_line number (done_line n) ≡ false
done_is_no_entry number n le = elim (cases_Bool (is_entry_line number (done_line n))) [
  | inl y ↦
      let same : first_byte (done_line n) ≡ 101 = ap first_byte (only_line entry_word number refl le (done_line n) y) in
      let other : first_byte (done_line n) ≡ 100 = refl in
      absurd (omega arith)
  | inr n ↦ n
]

either_reads : (before most : ℕ) → before + 1 ≤ 128 → Reads (rest_lines (before + 1)) (IsRest (before + 1) most) (rest_at most (before + 1)) → Reads (rest_lines before) (IsRest before (suc most)) (rest_at (suc most) before)
either_reads before most le P =
    reads_as (rest_lines before) (rest_lines before) (IsRest before (suc most)) (IsRest before (suc most)) (by_first (is_entry_line (2 * before + 1)) (after_at most before) (none_at before)) (rest_at (suc most) before)
    (reads_by_first (entry_line (2 * before + 1)) (is_entry_line (2 * before + 1)) (passes_line entry_word (2 * before + 1) refl (omega arith)) (only_line entry_word (2 * before + 1) refl (omega arith))
    (after_lines before) (HasSome before (suc most)) (after_at most before) (rest_lines before) (HasNone before (suc most)) (none_at before) (rest_lines before) (IsRest before (suc most))
    (after_reads before most le P) (none_reads before (suc most) (omega arith))
    some_first none_other by_rows)
    (λ rows g. g) (λ rows g. g) (λ rows g. refl) (either_same before most (is_within_from 256 (2 * before + 1) (omega arith) (omega arith)) (omega arith))
  where
    texts : (rows : List FloorRow) → HasSome before (suc most) rows → rest_lines before rows ≡ entry_line (2 * before + 1) ∷ after_lines before rows
    texts [] g = absurd g.1
    texts (r ∷ rs) g =
        let number = g.0.1.0.floor.1 in
        let n : 2 * (before + suc (length rs)) ≡ 2 * ((before + 1) + length rs) = omega arith in
        ap (λ (ls : List (List ℕ)). ls ++ done_line (2 * (before + suc (length rs))) ∷ []) (flat_map-cons row_lines r rs)
        ∙ append_assoc (row_lines r) (rows_lines rs) (done_line (2 * (before + suc (length rs))) ∷ [])
        ∙ ap (λ (k : ℕ). row_lines r ++ (rows_lines rs ++ done_line k ∷ [])) n
        ∙ ap (λ (ls : List (List ℕ)). (ls ++ row_rest r) ++ rest_lines (before + 1) rs) (entry_split Two r.floor)
        ∙ ap (λ (k : ℕ). entry_line k ∷ (row_tail r ++ rest_lines (before + 1) rs)) number

    some_first : (rows : List FloorRow) → HasSome before (suc most) rows → IsRest before (suc most) rows × (rest_lines before rows ≡ entry_line (2 * before + 1) ∷ after_lines before rows)
    some_first rows g = (g.0, texts rows g)

    no_lines : (rows : List FloorRow) → rows ≡ [] → rest_lines before rows ≡ done_line (2 * (before + 0)) ∷ []
    no_lines rows e = ap (rest_lines before) e

    none_other : (rows : List FloorRow) → HasNone before (suc most) rows → IsRest before (suc most) rows × (rest_lines before rows ≡ rest_lines before rows) × StartsOtherwise (is_entry_line (2 * before + 1)) (rest_lines before rows)
    none_other rows g = (g.0, refl, subst (StartsOtherwise (is_entry_line (2 * before + 1))) (sym (no_lines rows g.1)) (done_is_no_entry (2 * before + 1) (2 * (before + 0)) (omega arith)))

    by_rows : (rows : List FloorRow) → IsRest before (suc most) rows → HasSome before (suc most) rows ⊎ HasNone before (suc most) rows
    by_rows [] g = inr (g, refl)
    by_rows (r ∷ rs) g = inl (g, tt)

-- ---- all of them

pub rest_reads : (most before : ℕ) → before + most ≤ 128 → Reads (rest_lines before) (IsRest before most) (rest_at most before)
unfolding rows_from
rest_reads zero before le =
    reads_as (rest_lines before) (rest_lines before) (HasNone before 0) (IsRest before 0) (none_at before) (rest_at 0 before)
    (none_reads before 0 (omega arith)) none_is (λ rows g. g.0) (λ rows g. refl) (none_same before)
  where
    none_is : (rows : List FloorRow) → IsRest before 0 rows → HasNone before 0 rows
    none_is [] g = (g, refl)
    none_is (r ∷ rs) g = let few = g.0 in absurd (omega arith)
rest_reads (suc most) before le = either_reads before most (omega arith) (rest_reads most (before + 1) (omega arith))

-- ---- the whole text

whole_is : (rows : List FloorRow) → IsFloor rows → IsRest 0 128 rows
whole_is rows g = (g.few, g.numbered)

floor_is : (rows : List FloorRow) → IsRest 0 128 rows → IsFloor rows
floor_is rows g = record { few = g.0; numbered = g.1 }

pub floor_rest : (rows : List FloorRow) → floor_lines rows ≡ head_line ∷ rest_lines 0 rows
floor_rest rows =
    let z : 2 * length rows ≡ 2 * (0 + length rows) = omega arith in
    ap (λ (n : ℕ). head_line ∷ (rows_lines rows ++ done_line n ∷ [])) z

-- the one value that the first line tells
abbrev AnyHead : Unit {0} → Type 0
AnyHead u = Unit {0}

abbrev with_head : List (List ℕ) → Reading (List ℕ) (Unit {0})
with_head rest = Ok (tt, rest)

abbrev head_at : List (List ℕ) → Reading (List ℕ) (Unit {0})
head_at ls = behind_line head_line ls >>= with_head

pub floor_reads : Reads floor_lines IsFloor floor_at
unfolding floor_at
floor_reads =
    reads_as (λ rows. head_line ∷ rest_lines 0 rows) floor_lines (IsRest 0 128) IsFloor
    (λ ls. head_at ls >>= λ x. rest_at 128 0 x.1) floor_at
    (reads_then (λ u. head_line ∷ []) AnyHead head_at (λ rows. tt) (rest_lines 0) (IsRest 0 128) (λ u ls. rest_at 128 0 ls)
    (reads_line_alone head_line AnyHead tt tt (λ u f. refl))
    (λ u h. reads_as (rest_lines 0) (rest_lines 0) (IsRest 0 128) (λ rows. IsRest 0 128 rows × (tt ≡ u)) (rest_at 128 0) (rest_at 128 0) (rest_reads 128 0 (omega arith)) (λ rows g. g.0) (λ rows g. (g, refl)) (λ rows g. refl) (λ ls. refl))
    (λ rows g. tt))
    whole_is floor_is (λ rows g. floor_rest rows) (λ ls. by_head (behind_line head_line ls))
  where
    ended : (rows : List FloorRow × List (List ℕ)) → (first_by (numbered_of done_word (2 * length rows.0)) rows.1 >>= λ d. Ok (rows.0, d.1)) ≡ with_end 0 rows
    ended rows =
        let z : 2 * length rows.0 ≡ 2 * (0 + length rows.0) = omega arith in
        ap (λ (n : ℕ). first_by (numbered_of done_word n) rows.1 >>= carried (λ (m : ℕ). rows.0)) z

    by_rows : (r : Reading (List ℕ) (List FloorRow)) → (r >>= λ rows. first_by (numbered_of done_word (2 * length rows.0)) rows.1 >>= λ d. Ok (rows.0, d.1)) ≡ (r >>= with_end 0)
    by_rows (Ok rows) = ended rows
    by_rows (Err left) = refl

    by_head : (r : Result (List (List ℕ)) ℕ) → (r >>= λ rest. rows_from 128 0 rest >>= λ rows. first_by (numbered_of done_word (2 * length rows.0)) rows.1 >>= λ d. Ok (rows.0, d.1)) ≡ ((r >>= with_head) >>= λ x. rest_at 128 0 x.1)
    by_head (Ok rest) = by_rows (rows_from 128 0 rest)
    by_head (Err left) = refl
