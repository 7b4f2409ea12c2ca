-- A report is read exactly, entry by entry.
use Rattle.std.proofs.Common.{◌≡◌, ℕ, zero, suc, ◌≤◌, ◌+◌, ◌*◌, List, [], ◌∷◌, ◌++◌, length, Ok, refl, sym, ap, subst, ◌∙◌, append_assoc, arith}
use Rattle.std.specs.Prelude.{codes}
use Rattle.std.specs.List.{AllByRecursion}
use Rattle.std.proofs.lemmas.List.{length-append}
use Rattle.std.proofs.lemmas.List.Concat.{flat_map-cons}
use Rattle.texts.specs.Lines.{spaced}
use Rattle.texts.specs.Grammar.{Reads, Reading, ◌>>=◌, first_by}
use Rattle.texts.proofs.LineEnds.{IsPlain}
use Rattle.texts.proofs.Parsers.{plain_spaced}
use Rattle.texts.proofs.Readers.{reads_none, reads_then, reads_as}
use Rattle.cert_text.proofs.OneWord.{Any}
use Rattle.cert_text.specs.declared.forms.Form.{Form}
use Rattle.cert_text.specs.declared.forms.Form.TheVariants.{One, Two}
use Rattle.order_reader.specs.declared.faults.RowFault.TheVariants as faults
use Rattle.listing_text.proofs.LayerReaders.{all_both}
use Rattle.plan_entries.specs.Ranges.{most_entries}
use Rattle.plan_entries.specs.declared.entries.Entry.{Entry}
use Rattle.plan_entries.specs.declared.entries.Entry.TheVariants.{Refused}
use Rattle.report_text.specs.LineTexts.{number_words}
use Rattle.report_text.specs.Text.{entry_lines}
use Rattle.report_text.specs.Lines.{entry_behind}
use Rattle.report_text.specs.NextWords.{done_of, next_of}
use Rattle.report_text.specs.ReportLines.{form_of, entries_behind, entries_from}
use Rattle.report_text.specs.Reports.{Report, head_line, done_line, entries_lines, report_lines, AreNumberedFrom, IsReport}
use Rattle.report_text.specs.declared.nexts.Next.{Next}
use Rattle.report_text.specs.declared.nexts.Next.TheVariants.{Done, More}
use Rattle.report_text.proofs.EntryWords.{IsWithin, is_within_from}
use Rattle.report_text.proofs.EntryReaders.{by_line, carried, reads_into, few_entries, behind_number, IsEntryOf, behind_reads, entry_split}
use Rattle.report_text.proofs.EntryBytes.{entry_plain, few_entry_lines}
use Rattle.report_text.proofs.NextLines.{done_words, done_solid, done_reads, next_words, next_reads, form_reads}

-- ---- the entries behind so many

-- their lines, and the line of the number of all
abbrev pub rest_lines : Form → ℕ → List Entry → List (List ℕ)
rest_lines form before es = entries_lines form es ++ done_line (before + length es) ∷ []

-- at most so many, numbered on
abbrev pub AreRest : Form → ℕ → ℕ → List Entry → Type 0
AreRest form before most es = (length es ≤ most) × AreNumberedFrom form (before + 1) es

abbrev next_key : List Entry → Next
next_key [] = Done
next_key (e ∷ es) = More

abbrev first_entry : List Entry → Entry
first_entry [] = Refused 1 faults.FieldCount
first_entry (e ∷ es) = e

abbrev other_entries : List Entry → List Entry
other_entries [] = []
other_entries (e ∷ es) = es

abbrev after_lines : Form → ℕ → List Entry → List (List ℕ)
after_lines form before [] = []
after_lines form before (e ∷ es) = behind_number form e ++ rest_lines form (before + 1) es

abbrev IsNext : Form → ℕ → ℕ → Next → List Entry → Type 0
IsNext form before most next es = AreRest form before most es × (next_key es ≡ next)

none_is : (form : Form) (before : ℕ) (es : List Entry) → AreRest form before 0 es → es ≡ []
none_is form before [] f = refl
none_is form before (e ∷ es) f = let le = f.0 in absurd (omega arith)

done_is : (form : Form) (before most : ℕ) (es : List Entry) → IsNext form before most Done es → es ≡ []
done_is form before most [] f = refl
done_is form before most (e ∷ es) f = let h = f.1 in absurd cc

no_more_lines : (form : Form) (before : ℕ) (es : List Entry) → es ≡ [] → rest_lines form before es ≡ done_line before ∷ []
no_more_lines form before es e =
    let z : before + 0 ≡ before = omega arith in
    ap (rest_lines form before) e ∙ ap (λ (n : ℕ). done_line n ∷ []) z

-- at the end
last_read : (form : Form) (before : ℕ) → before ≤ 9999999999 → Reads (rest_lines form before) (AreRest form before 0) (entries_from form 0 before)
unfolding entries_from
last_read form before le =
    reads_as (λ es. done_line before ∷ []) (rest_lines form before) (AreRest form before 0) (AreRest form before 0)
    (λ ls. first_by (done_of before) ls >>= λ d. Ok ([], d.1)) (entries_from form 0 before)
    (reads_then (λ n. done_line n ∷ []) (λ n. n ≡ before) (first_by (done_of before)) (λ es. before) (λ es. []) (AreRest form before 0) (λ n ls. Ok ([], ls))
    (by_line (λ n. done_line n) (λ n. n ≡ before) (done_of before) (done_reads before le) before refl)
    (λ n hn. reads_none (λ es. AreRest form before 0 es × (before ≡ n)) [] ((omega arith, tt), sym hn) (λ es f. none_is form before es f.0))
    (λ es f. refl))
    (λ es f. f) (λ es f. f) (λ es f. no_more_lines form before es (none_is form before es f)) (λ ls. refl)

-- one more entry, where the others are read
more_read : (form : Form) (before most : ℕ) → IsWithin (most_entries form) (before + 1) → Reads (rest_lines form (before + 1)) (AreRest form (before + 1) most) (entries_from form most (before + 1))
    → Reads (after_lines form before) (IsNext form before (suc most) More) (entries_behind form (before + 1) (entries_from form most (before + 1)) More)
more_read form before most within P =
    reads_as (λ es. behind_number form (first_entry es) ++ rest_lines form (before + 1) (other_entries es)) (after_lines form before) (IsNext form before (suc most) More) (IsNext form before (suc most) More)
    (λ ls. entry_behind form (before + 1) ls >>= λ e. entries_from form most (before + 1) e.1 >>= carried (λ es. e.0 ∷ es)) (entries_behind form (before + 1) (entries_from form most (before + 1)) More)
    (reads_then (behind_number form) (IsEntryOf form (before + 1)) (entry_behind form (before + 1)) first_entry (λ es. rest_lines form (before + 1) (other_entries es)) (IsNext form before (suc most) More)
    (λ e ls. entries_from form most (before + 1) ls >>= carried (λ es. e ∷ es))
    (behind_reads form (before + 1) within)
    (λ e he. reads_into (λ es. e ∷ es) (rest_lines form (before + 1)) (AreRest form (before + 1) most) (entries_from form most (before + 1)) (λ es. rest_lines form (before + 1) (other_entries es)) (λ es. IsNext form before (suc most) More es × (first_entry es ≡ e))
    P (λ es f. refl) (made e he) (parted e))
    first_good)
    (λ es f. f) (λ es f. f) texts (λ ls. refl)
  where
    made : (e : Entry) → IsEntryOf form (before + 1) e → (es : List Entry) → AreRest form (before + 1) most es → IsNext form before (suc most) More (e ∷ es) × (first_entry (e ∷ es) ≡ e)
    made e he es f = let le = f.0 in (((omega arith, ((he.1, he.0), f.1)), refl), refl)

    parted : (e : Entry) (es : List Entry) → IsNext form before (suc most) More es × (first_entry es ≡ e) → (ds : List Entry) × (es ≡ e ∷ ds) × AreRest form (before + 1) most ds
    parted e [] f = let h = f.0.1 in absurd cc
    parted e (d ∷ ds) f = let le = f.0.0.0 in (ds, ap (λ (x : Entry). x ∷ ds) f.1, (omega arith, f.0.0.1.1))

    first_good : (es : List Entry) → IsNext form before (suc most) More es → IsEntryOf form (before + 1) (first_entry es)
    first_good [] f = let h = f.1 in absurd cc
    first_good (e ∷ es) f = (f.0.1.0.1, f.0.1.0.0)

    texts : (es : List Entry) → IsNext form before (suc most) More es → after_lines form before es ≡ behind_number form (first_entry es) ++ rest_lines form (before + 1) (other_entries es)
    texts [] f = let h = f.1 in absurd cc
    texts (e ∷ es) f = refl

next_read : (form : Form) (before most : ℕ) → IsWithin (most_entries form) (before + 1) → Reads (rest_lines form (before + 1)) (AreRest form (before + 1) most) (entries_from form most (before + 1))
    → (next : Next) → Reads (after_lines form before) (IsNext form before (suc most) next) (entries_behind form (before + 1) (entries_from form most (before + 1)) next)
next_read form before most within P Done =
    reads_as (λ es. []) (after_lines form before) (IsNext form before (suc most) Done) (IsNext form before (suc most) Done) (λ ls. Ok ([], ls)) (entries_behind form (before + 1) (entries_from form most (before + 1)) Done)
    (reads_none (IsNext form before (suc most) Done) [] ((omega arith, tt), refl) (done_is form before (suc most)))
    (λ es f. f) (λ es f. f) (λ es f. ap (after_lines form before) (done_is form before (suc most) es f)) (λ ls. refl)
next_read form before most within P More = more_read form before most within P

-- the lines by the next of them
next_lines : (form : Form) (before most : ℕ) (es : List Entry) → AreRest form before most es → rest_lines form before es ≡ spaced (next_words before (next_key es)) ∷ after_lines form before es
next_lines form before most [] f = no_more_lines form before [] refl
next_lines form before most (e ∷ es) f =
    let number = f.1.0.0 in
    let n : before + suc (length es) ≡ (before + 1) + length es = omega arith in
    ap (λ (ls : List (List ℕ)). ls ++ done_line (before + suc (length es)) ∷ []) (flat_map-cons (entry_lines form) e es)
    ∙ append_assoc (entry_lines form e) (entries_lines form es) (done_line (before + suc (length es)) ∷ [])
    ∙ ap (λ (k : ℕ). entry_lines form e ++ (entries_lines form es ++ done_line k ∷ [])) n
    ∙ ap (λ (ls : List (List ℕ)). ls ++ rest_lines form (before + 1) es) (entry_split form e)
    ∙ ap (λ (k : ℕ). spaced (number_words k) ∷ (behind_number form e ++ rest_lines form (before + 1) es)) number

pub entries_read : (form : Form) (most before : ℕ) → before + most ≤ most_entries form → Reads (rest_lines form before) (AreRest form before most) (entries_from form most before)
unfolding entries_from
entries_read form zero before le = last_read form before (omega (arith, few_entries form))
entries_read form (suc most) before le =
    reads_as (λ es. spaced (next_words before (next_key es)) ∷ after_lines form before es) (rest_lines form before) (AreRest form before (suc most)) (AreRest form before (suc most))
    (λ ls. first_by (next_of before) ls >>= λ next. entries_behind form (before + 1) (entries_from form most (before + 1)) next.0 next.1) (entries_from form (suc most) before)
    (reads_then (λ next. spaced (next_words before next) ∷ []) Any (first_by (next_of before)) next_key (after_lines form before) (AreRest form before (suc most)) (λ next ls. entries_behind form (before + 1) (entries_from form most (before + 1)) next ls)
    (by_line (λ next. spaced (next_words before next)) Any (next_of before) (next_reads before (omega (arith, few_entries form))) Done tt)
    (λ next h. next_read form before most (is_within_from (most_entries form) (before + 1) (omega arith) (omega arith)) (entries_read form most (before + 1) (omega arith)) next)
    (λ es f. tt))
    (λ es f. f) (λ es f. f) (next_lines form before (suc most)) (λ ls. refl)

-- ---- a whole report

unfoldable pub report_at : List (List ℕ) → Reading (List ℕ) Report
report_at ls = first_by form_of ls >>= λ f. entries_from f.0 (most_entries f.0) 0 f.1 >>= carried (λ es. record { form = f.0; entries = es })

abbrev report_of : Form → List Entry → Report
report_of form es = record { form = form; entries = es }

report_made : (form : Form) (es : List Entry) → AreRest form 0 (most_entries form) es → IsReport (report_of form es) × (form ≡ form)
report_made form es f = (record { few = f.0; numbered = f.1 }, refl)

report_parted : (form : Form) (r : Report) → IsReport r × (r.form ≡ form) → (es : List Entry) × (r ≡ report_of form es) × AreRest form 0 (most_entries form) es
report_parted form r f =
    (r.entries, ap (λ (g : Form). report_of g r.entries) f.1, subst (λ (g : Form). AreRest g 0 (most_entries g) r.entries) f.1 (f.0.few, f.0.numbered))

report_rest : (r : Report) → report_lines r ≡ head_line r.form ∷ rest_lines r.form 0 r.entries
report_rest r =
    let z : length r.entries ≡ 0 + length r.entries = omega arith in
    ap (λ (n : ℕ). head_line r.form ∷ (entries_lines r.form r.entries ++ done_line n ∷ [])) z

pub report_reads : Reads report_lines IsReport report_at
unfolding report_at
report_reads =
    reads_as (λ r. head_line r.form ∷ rest_lines r.form 0 r.entries) report_lines IsReport IsReport
    (λ ls. first_by form_of ls >>= λ f. entries_from f.0 (most_entries f.0) 0 f.1 >>= carried (λ es. record { form = f.0; entries = es })) report_at
    (reads_then (λ f. head_line f ∷ []) Any (first_by form_of) (λ r. r.form) (λ r. rest_lines r.form 0 r.entries) IsReport (λ f ls. entries_from f (most_entries f) 0 ls >>= carried (λ es. record { form = f; entries = es }))
    (by_line head_line Any form_of form_reads One tt)
    (λ f hf. reads_into (report_of f) (rest_lines f 0) (AreRest f 0 (most_entries f)) (entries_from f (most_entries f) 0) (λ r. rest_lines r.form 0 r.entries) (λ r. IsReport r × (r.form ≡ f))
    (entries_read f (most_entries f) 0 (omega arith)) (λ es g. refl) (report_made f) (report_parted f))
    (λ r f. tt))
    (λ r f. f) (λ r f. f) (λ r f. report_rest r) (λ ls. refl)

-- ---- no line has an end inside, and there are few

entries_plain : (form : Form) (n : ℕ) (es : List Entry) → AreNumberedFrom form n es → AllByRecursion IsPlain (entries_lines form es)
entries_plain form n [] f = tt
entries_plain form n (e ∷ es) f =
    subst (AllByRecursion IsPlain) (sym (flat_map-cons (entry_lines form) e es)) (all_both IsPlain (entry_lines form e) (entries_lines form es) (entry_plain form e f.0.1) (entries_plain form (n + 1) es f.1))

pub done_plain : (n : ℕ) → n ≤ 9999999999 → IsPlain (done_line n)
done_plain n le = plain_spaced (done_words n) (done_solid n le)

head_plain : (form : Form) → IsPlain (head_line form)
head_plain One = plain_spaced (codes "pallet-report" ∷ codes "1" ∷ []) (refl, (refl, tt))
head_plain Two = plain_spaced (codes "pallet-report" ∷ codes "2" ∷ []) (refl, (refl, tt))

pub rest_plain : (form : Form) (before : ℕ) (es : List Entry) → before + length es ≤ most_entries form → AreNumberedFrom form (before + 1) es → AllByRecursion IsPlain (rest_lines form before es)
rest_plain form before es le f =
    all_both IsPlain (entries_lines form es) (done_line (before + length es) ∷ []) (entries_plain form (before + 1) es f) (done_plain (before + length es) (omega (arith, few_entries form)), tt)

pub report_plain : (r : Report) → IsReport r → AllByRecursion IsPlain (report_lines r)
report_plain r f =
    let few = f.few in
    (head_plain r.form, all_both IsPlain (entries_lines r.form r.entries) (done_line (length r.entries) ∷ []) (entries_plain r.form 1 r.entries f.numbered) (done_plain (length r.entries) (omega (arith, few_entries r.form)), tt))

few_lines_of : (form : Form) (n : ℕ) (es : List Entry) → AreNumberedFrom form n es → length (entries_lines form es) ≤ length es * 120300
few_lines_of form n [] f = omega arith
few_lines_of form n (e ∷ es) f =
    let one = few_entry_lines form e f.0.1 in
    let others = few_lines_of form (n + 1) es f.1 in
    let all = length-append (entry_lines form e) (entries_lines form es) in
    let same : length (entries_lines form (e ∷ es)) ≡ length (entry_lines form e ++ entries_lines form es) = ap length (flat_map-cons (entry_lines form) e es) in
    omega arith

at_most : (form : Form) → most_entries form ≤ 256
at_most One = omega arith
at_most Two = omega arith

pub few_report_lines : (r : Report) → IsReport r → length (report_lines r) ≤ 30800000
few_report_lines r f =
    let few = f.few in
    let most = at_most r.form in
    let lines = few_lines_of r.form 1 r.entries f.numbered in
    let all = length-append (entries_lines r.form r.entries) (done_line (length r.entries) ∷ []) in
    omega arith
