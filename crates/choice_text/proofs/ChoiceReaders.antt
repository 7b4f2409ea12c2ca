-- The text of a choice is read exactly, line by line.
use Rattle.std.proofs.Common.{◌≡◌, ◌≢◌, ℕ, zero, suc, ◌≤◌, ◌+◌, List, [], ◌∷◌, ◌++◌, length, Option, Some, None, Result, Ok, Err, refl, sym, ap, subst, ◌∙◌, append_assoc, arith, Bool, false, ◌⊎◌, inl, inr}
use Rattle.std.specs.Prelude.{codes, is_some}
use Rattle.std.proofs.lemmas.Bool.{cases_Bool}
use Rattle.std.proofs.lemmas.List.Concat.{flat_map-cons}
use Rattle.texts.specs.Lines.{spaced}
use Rattle.texts.specs.Grammar.{Reads, Reading, ◌>>=◌, first_by}
use Rattle.texts.proofs.Readers.{reads_then, reads_as}
use Rattle.cert_text.specs.declared.forms.Form.TheVariants.{Two}
use Rattle.plan_entries.specs.declared.entries.Entry.{Entry}
use Rattle.pallet_choice.specs.Text.{TailValue, chosen_words, rival_line, tail_lines}
use Rattle.pallet_choice.specs.Ranges.{IsTail}
use Rattle.pallet_choice.specs.Lines.{tail_at, ended_tail_at}
use Rattle.pallet_choice.proofs.EndedTails.{ended_tails_read}
use Rattle.report_text.specs.Text.{entry_lines}
use Rattle.report_text.specs.Words.{number_of_line}
use Rattle.report_text.specs.Lines.{behind_line, entry_behind, entry_at}
use Rattle.report_text.specs.Reports.{done_line, entries_lines}
use Rattle.report_text.proofs.EntryWords.{IsWithin, is_within_from, named_reads}
use Rattle.report_text.proofs.EntryReaders.{by_line, reads_line_alone, carried, reads_into, behind_number, IsEntryOf, behind_reads, entry_split}
use Rattle.report_text.proofs.ReportReaders.{AreRest}
use Rattle.choice_text.specs.Text.{ChoiceFile, head_line, file_lines, IsChoiceFile}
use Rattle.choice_text.specs.Words.{numbered_of}
use Rattle.choice_text.specs.Lines.{entry_and, entries_from, end_at, file_at}
use Rattle.choice_text.proofs.FirstSigns.{StartsOtherwise, by_first, reads_by_first}
use Rattle.choice_text.proofs.NumberedLines.{numbered_line, numbered_reads, passes_line, only_line}

-- ---- the tail and the last line

abbrev done_word : List ℕ
done_word = codes "done"

abbrev pub first_byte : List ℕ → ℕ
first_byte [] = 0
first_byte (b ∷ bytes) = b

other_byte : (a b : ℕ) → a ≡ 100 → b ≡ 114 → a ≡ b → ⊥
other_byte a b p q e = omega arith

done_is_no_rival : (n : ℕ) (rival : ℕ × ℕ) → done_line n ≢ rival_line rival
done_is_no_rival n rival e = other_byte (first_byte (done_line n)) (first_byte (rival_line rival)) refl refl (ap first_byte e)

abbrev end_lines : ℕ → TailValue → List (List ℕ)
end_lines count t = tail_lines t ++ done_line count ∷ []

abbrev tail_told : TailValue × ℕ → TailValue
tail_told x = x.0

end_reads : (count : ℕ) → count ≤ 9999999999 → Reads (end_lines count) IsTail (end_at count)
unfolding end_at
end_reads count le =
    reads_as (end_lines count) (end_lines count) IsTail IsTail (λ ls. ended_tail_at (first_by (numbered_of done_word count)) ls >>= carried tail_told) (end_at count)
    (reads_into tail_told (λ x. tail_lines x.0 ++ done_line x.1 ∷ []) (λ x. IsTail x.0 × (x.1 ≡ count)) (ended_tail_at (first_by (numbered_of done_word count))) (end_lines count) IsTail
    (ended_tails_read (λ n. done_line n ∷ []) (λ n. n ≡ count) (first_by (numbered_of done_word count))
    (by_line (numbered_line done_word) (λ n. n ≡ count) (numbered_of done_word count) (numbered_reads done_word count refl le) count refl)
    (λ n f. done_is_no_rival n))
    (λ x f. ap (λ (n : ℕ). end_lines n x.0) (sym f.1)) (λ x f. f.0) (λ t f. ((t, count), refl, (f, refl))))
    (λ t f. f) (λ t f. f) (λ t f. refl) (λ ls. same (tail_at ls))
  where
    ended : (t : TailValue) (d : Reading (List ℕ) ℕ) → (d >>= λ x. Ok (t, x.1)) ≡ ((d >>= λ x. Ok ((t, x.0), x.1)) >>= carried tail_told)
    ended t (Ok x) = refl
    ended t (Err left) = refl

    same : (r : Reading (List ℕ) TailValue) → (r >>= λ t. first_by (numbered_of done_word count) t.1 >>= λ d. Ok (t.0, d.1))
        ≡ ((r >>= λ t. first_by (numbered_of done_word count) t.1 >>= λ d. Ok ((t.0, d.0), d.1)) >>= carried tail_told)
    same (Ok t) = ended t.0 (first_by (numbered_of done_word count) t.1)
    same (Err left) = refl

-- ---- what is after so many entries

abbrev pub file_of : List Entry → TailValue → ChoiceFile
file_of es t = record { entries = es; tail = t }

abbrev pub rest_lines : ℕ → ChoiceFile → List (List ℕ)
rest_lines before f = entries_lines Two f.entries ++ end_lines (before + length f.entries) f.tail

-- at most so many entries, numbered on, and a tail
abbrev pub IsRest : ℕ → ℕ → ChoiceFile → Type 0
IsRest before most f = AreRest Two before most f.entries × IsTail f.tail

-- the entries, then their end
abbrev pub with_end : ℕ → List Entry × List (List ℕ) → Reading (List ℕ) ChoiceFile
with_end before es = end_at (before + length es.0) es.1 >>= carried (file_of es.0)

abbrev pub rest_at : ℕ → ℕ → List (List ℕ) → Reading (List ℕ) ChoiceFile
rest_at most before ls = entries_from most before ls >>= with_end before

-- ---- no entry follows

abbrev HasNone : ℕ → ℕ → ChoiceFile → Type 0
HasNone before most f = IsRest before most f × (f.entries ≡ [])

abbrev none_at : ℕ → List (List ℕ) → Reading (List ℕ) ChoiceFile
none_at before ls = end_at before ls >>= carried (file_of [])

none_reads : (before most : ℕ) → before ≤ 9999999999 → Reads (rest_lines before) (HasNone before most) (none_at before)
none_reads before most le =
    reads_into (file_of []) (end_lines before) IsTail (end_at before) (rest_lines before) (HasNone before most) (end_reads before le)
    (λ t f. let z : before + 0 ≡ before = omega arith in ap (λ (n : ℕ). end_lines n t) z)
    (λ t f. (((omega arith, tt), f), refl))
    (λ f h. (f.tail, ap (λ (es : List Entry). file_of es f.tail) h.1, h.0.1))

-- ---- an entry follows

abbrev SomeEntry : List Entry → Type 0
SomeEntry [] = ⊥
SomeEntry (e ∷ es) = Unit {0}

abbrev HasSome : ℕ → ℕ → ChoiceFile → Type 0
HasSome before most f = IsRest before most f × SomeEntry f.entries

-- an entry in front of the others, and these two by themselves
abbrev onto : Entry × ChoiceFile → ChoiceFile
onto x = file_of (x.0 ∷ x.1.entries) x.1.tail

abbrev both_of : Entry → ChoiceFile → Entry × ChoiceFile
both_of e f = (e, f)

-- after the line of the entry's number
abbrev lines_after : ℕ → TailValue → List Entry → List (List ℕ)
lines_after before t [] = []
lines_after before t (e ∷ es) = behind_number Two e ++ rest_lines (before + 1) (file_of es t)

abbrev after_lines : ℕ → ChoiceFile → List (List ℕ)
after_lines before f = lines_after before f.tail f.entries

abbrev both_at : ℕ → ℕ → List (List ℕ) → Reading (List ℕ) (Entry × ChoiceFile)
both_at most before ls = entry_behind Two (before + 1) ls >>= λ e. rest_at most (before + 1) e.1 >>= carried (both_of e.0)

abbrev after_at : ℕ → ℕ → List (List ℕ) → Reading (List ℕ) ChoiceFile
after_at most before ls = both_at most before ls >>= carried onto

abbrev AreBoth : ℕ → ℕ → Entry × ChoiceFile → Type 0
AreBoth before most x = IsEntryOf Two (before + 1) x.0 × IsRest (before + 1) most x.1

abbrev both_lines : ℕ → Entry × ChoiceFile → List (List ℕ)
both_lines before x = behind_number Two x.0 ++ rest_lines (before + 1) x.1

both_reads : (before most : ℕ) → IsWithin 256 (before + 1) → Reads (rest_lines (before + 1)) (IsRest (before + 1) most) (rest_at most (before + 1)) → Reads (both_lines before) (AreBoth before most) (both_at most before)
both_reads before most within P =
    reads_then (behind_number Two) (IsEntryOf Two (before + 1)) (entry_behind Two (before + 1)) (λ x. x.0) (λ x. rest_lines (before + 1) x.1) (AreBoth before most) (λ e ls. rest_at most (before + 1) ls >>= carried (both_of e))
    (behind_reads Two (before + 1) within)
    (λ e he. reads_into (both_of e) (rest_lines (before + 1)) (IsRest (before + 1) most) (rest_at most (before + 1)) (λ x. rest_lines (before + 1) x.1) (λ x. AreBoth before most x × (x.0 ≡ e))
    P (λ f g. refl) (λ f g. ((he, g), refl)) (λ x g. (x.1, ap (λ (d : Entry). both_of d x.1) g.1, g.0.1)))
    (λ x g. g.0)

after_reads : (before most : ℕ) → IsWithin 256 (before + 1) → Reads (rest_lines (before + 1)) (IsRest (before + 1) most) (rest_at most (before + 1)) → Reads (after_lines before) (HasSome before (suc most)) (after_at most before)
after_reads before most within P =
    reads_into onto (both_lines before) (AreBoth before most) (both_at most before) (after_lines before) (HasSome before (suc most))
    (both_reads before most within P) (λ x g. refl) made (λ f g. parted f.tail f.entries g)
  where
    made : (x : Entry × ChoiceFile) → AreBoth before most x → HasSome before (suc most) (onto x)
    made x g = let le = g.1.0.0 in (((omega arith, ((g.0.1, g.0.0), g.1.0.1)), g.1.1), tt)

    parted : (t : TailValue) (es : List Entry) → HasSome before (suc most) (file_of es t) → (x : Entry × ChoiceFile) × (file_of es t ≡ onto x) × AreBoth before most x
    parted t [] g = absurd g.1
    parted t (e ∷ es) g = let le = g.0.0.0 in (both_of e (file_of es t), refl, ((g.0.0.1.0.1, g.0.0.1.0.0), ((omega arith, g.0.0.1.1), g.0.1)))

-- ---- either of them

abbrev entry_line : ℕ → List ℕ
entry_line number = numbered_line (codes "entry") number

abbrev is_entry_line : ℕ → List ℕ → Bool
is_entry_line number line = is_some (numbered_of (codes "entry") number line)

-- an entry whose first line is known is read after that line
pub entry_here : (number : ℕ) (l : List ℕ) (ls : List (List ℕ)) → IsWithin 256 number → l ≡ entry_line number → entry_at Two (l ∷ ls) ≡ entry_behind Two number ls
unfolding entry_at
entry_here number l ls within same =
    let back : number_of_line Two l ≡ Some number = ap (number_of_line Two) same ∙ (named_reads (codes "entry") 256 (omega arith) refl).back number within in
    rw back refl

none_same : (before : ℕ) (ls : List (List ℕ)) → with_end before ([], ls) ≡ none_at before ls
none_same before ls =
    let z : before + 0 ≡ before = omega arith in
    ap (λ (n : ℕ). end_at n ls >>= carried (file_of [])) z

-- the entry that was read, and the others
abbrev with_others : Entry → Reading (List ℕ) ChoiceFile → Reading (List ℕ) ChoiceFile
with_others e r = (r >>= carried (both_of e)) >>= carried onto

one_more : (before : ℕ) (e : Entry) (es : List Entry) (ls : List (List ℕ)) → with_end before (e ∷ es, ls) ≡ with_others e (with_end (before + 1) (es, ls))
one_more before e es ls =
    let n : before + suc (length es) ≡ (before + 1) + length es = omega arith in
    ap (λ (k : ℕ). end_at k ls >>= carried (file_of (e ∷ es))) n ∙ by (end_at ((before + 1) + length es) ls)
  where
    by : (r : Reading (List ℕ) TailValue) → (r >>= carried (file_of (e ∷ es))) ≡ with_others e (r >>= carried (file_of es))
    by (Ok t) = refl
    by (Err left) = refl

some_same : (before most : ℕ) (l : List ℕ) (ls : List (List ℕ)) → IsWithin 256 (before + 1) → l ≡ entry_line (before + 1) → (entry_and (entries_from most (before + 1)) (l ∷ ls) >>= with_end before) ≡ after_at most before ls
some_same before most l ls within same = ap (λ (r : Reading (List ℕ) Entry). (r >>= λ e. entries_from most (before + 1) e.1 >>= λ es. Ok (e.0 ∷ es.0, es.1)) >>= with_end before) (entry_here (before + 1) l ls within same) ∙ by (entry_behind Two (before + 1) ls)
  where
    others : (e : Entry) (r : Reading (List ℕ) (List Entry)) → ((r >>= λ es. Ok (e ∷ es.0, es.1)) >>= with_end before) ≡ with_others e (r >>= with_end (before + 1))
    others e (Ok es) = one_more before e es.0 es.1
    others e (Err left) = refl

    by : (r : Reading (List ℕ) Entry) → ((r >>= λ e. entries_from most (before + 1) e.1 >>= λ es. Ok (e.0 ∷ es.0, es.1)) >>= with_end before) ≡ ((r >>= λ e. rest_at most (before + 1) e.1 >>= carried (both_of e.0)) >>= carried onto)
    by (Ok e) = others e.0 (entries_from most (before + 1) e.1)
    by (Err left) = refl

either_same : (before most : ℕ) → IsWithin 256 (before + 1) → before + 1 ≤ 9999999999 → (ls : List (List ℕ)) → rest_at (suc most) before ls ≡ by_first (is_entry_line (before + 1)) (after_at most before) (none_at before) ls
unfolding entries_from
either_same before most within le [] = none_same before []
either_same before most within le (l ∷ ls) = elim (cases_Bool (is_entry_line (before + 1) l)) [
  | inl y ↦ rw y (some_same before most l ls within (only_line (codes "entry") (before + 1) refl le l y))
  | inr n ↦ rw n (none_same before (l ∷ ls))
]

no_entry_line : (number : ℕ) (l : List ℕ) → number ≤ 9999999999 → first_byte l ≡ 99 → is_entry_line number l ≡ false
no_entry_line number l le e = elim (cases_Bool (is_entry_line number l)) [
  | inl y ↦
      let same : first_byte l ≡ 101 = ap first_byte (only_line (codes "entry") number refl le l y) in
      absurd (omega arith)
  | inr n ↦ n
]

chosen_starts : (chosen : Option (ℕ × ℕ)) → first_byte (spaced (chosen_words chosen)) ≡ 99
chosen_starts None = refl
chosen_starts (Some entry) = refl

tail_starts : (number : ℕ) (t : TailValue) (ls : List (List ℕ)) → number ≤ 9999999999 → StartsOtherwise (is_entry_line number) (tail_lines t ++ ls)
unfolding tail_lines
tail_starts number t ls le = no_entry_line number (spaced (chosen_words t.chosen)) le (chosen_starts t.chosen)

either_reads : (before most : ℕ) → before + 1 ≤ 256 → Reads (rest_lines (before + 1)) (IsRest (before + 1) most) (rest_at most (before + 1)) → Reads (rest_lines before) (IsRest before (suc most)) (rest_at (suc most) before)
either_reads before most le P =
    reads_as (rest_lines before) (rest_lines before) (IsRest before (suc most)) (IsRest before (suc most)) (by_first (is_entry_line (before + 1)) (after_at most before) (none_at before)) (rest_at (suc most) before)
    (reads_by_first (entry_line (before + 1)) (is_entry_line (before + 1)) (passes_line (codes "entry") (before + 1) refl (omega arith)) (only_line (codes "entry") (before + 1) refl (omega arith))
    (after_lines before) (HasSome before (suc most)) (after_at most before) (rest_lines before) (HasNone before (suc most)) (none_at before) (rest_lines before) (IsRest before (suc most))
    (after_reads before most (is_within_from 256 (before + 1) (omega arith) le) P) (none_reads before (suc most) (omega arith))
    some_first none_other some_or_none)
    (λ f g. g) (λ f g. g) (λ f g. refl) (either_same before most (is_within_from 256 (before + 1) (omega arith) le) (omega arith))
  where
    texts : (t : TailValue) (es : List Entry) → HasSome before (suc most) (file_of es t) → rest_lines before (file_of es t) ≡ entry_line (before + 1) ∷ after_lines before (file_of es t)
    texts t [] g = absurd g.1
    texts t (e ∷ es) g =
        let number = g.0.0.1.0.0 in
        let n : before + suc (length es) ≡ (before + 1) + length es = omega arith in
        ap (λ (ls : List (List ℕ)). ls ++ end_lines (before + suc (length es)) t) (flat_map-cons (entry_lines Two) e es)
        ∙ append_assoc (entry_lines Two e) (entries_lines Two es) (end_lines (before + suc (length es)) t)
        ∙ ap (λ (k : ℕ). entry_lines Two e ++ (entries_lines Two es ++ end_lines k t)) n
        ∙ ap (λ (ls : List (List ℕ)). ls ++ rest_lines (before + 1) (file_of es t)) (entry_split Two e)
        ∙ ap (λ (k : ℕ). entry_line k ∷ (behind_number Two e ++ rest_lines (before + 1) (file_of es t))) number

    some_first : (f : ChoiceFile) → HasSome before (suc most) f → IsRest before (suc most) f × (rest_lines before f ≡ entry_line (before + 1) ∷ after_lines before f)
    some_first f g = (g.0, texts f.tail f.entries g)

    no_lines : (f : ChoiceFile) → f.entries ≡ [] → rest_lines before f ≡ end_lines (before + 0) f.tail
    no_lines f e = ap (λ (es : List Entry). rest_lines before (file_of es f.tail)) e

    none_other : (f : ChoiceFile) → HasNone before (suc most) f → IsRest before (suc most) f × (rest_lines before f ≡ rest_lines before f) × StartsOtherwise (is_entry_line (before + 1)) (rest_lines before f)
    none_other f g = (g.0, refl, subst (StartsOtherwise (is_entry_line (before + 1))) (sym (no_lines f g.1)) (tail_starts (before + 1) f.tail (done_line (before + 0) ∷ []) (omega arith)))

    by_entries : (t : TailValue) (es : List Entry) → IsRest before (suc most) (file_of es t) → HasSome before (suc most) (file_of es t) ⊎ HasNone before (suc most) (file_of es t)
    by_entries t [] g = inr (g, refl)
    by_entries t (e ∷ es) g = inl (g, tt)

    some_or_none : (f : ChoiceFile) → IsRest before (suc most) f → HasSome before (suc most) f ⊎ HasNone before (suc most) f
    some_or_none f g = by_entries f.tail f.entries g

-- ---- all of them

pub rest_reads : (most before : ℕ) → before + most ≤ 256 → Reads (rest_lines before) (IsRest before most) (rest_at most before)
unfolding entries_from
rest_reads zero before le =
    reads_as (rest_lines before) (rest_lines before) (HasNone before 0) (IsRest before 0) (none_at before) (rest_at 0 before)
    (none_reads before 0 (omega arith)) none_is (λ f g. g.0) (λ f g. refl) (none_same before)
  where
    by_entries : (t : TailValue) (es : List Entry) → IsRest before 0 (file_of es t) → es ≡ []
    by_entries t [] g = refl
    by_entries t (e ∷ es) g = let few = g.0.0 in absurd (omega arith)

    none_is : (f : ChoiceFile) → IsRest before 0 f → HasNone before 0 f
    none_is f g = (g, by_entries f.tail f.entries g)
rest_reads (suc most) before le = either_reads before most (omega arith) (rest_reads most (before + 1) (omega arith))

-- ---- the whole text

abbrev IsWhole : ChoiceFile → Type 0
IsWhole f = IsRest 0 256 f

whole_is : (f : ChoiceFile) → IsChoiceFile f → IsWhole f
whole_is f g = ((g.reported.few, g.reported.numbered), g.is_tail)

file_is : (f : ChoiceFile) → IsWhole f → IsChoiceFile f
file_is f g = record { reported = record { few = g.0.0; numbered = g.0.1 }; is_tail = g.1 }

pub file_rest : (f : ChoiceFile) → file_lines f ≡ head_line ∷ rest_lines 0 f
file_rest f =
    let z : length f.entries ≡ 0 + length f.entries = omega arith in
    ap (λ (n : ℕ). head_line ∷ (entries_lines Two f.entries ++ end_lines n f.tail)) z

-- the one value that the first line tells
abbrev AnyHead : Unit {0} → Type 0
AnyHead u = Unit {0}

abbrev with_head : List (List ℕ) → Reading (List ℕ) (Unit {0})
with_head rest = Ok (tt, rest)

abbrev head_at : List (List ℕ) → Reading (List ℕ) (Unit {0})
head_at ls = behind_line head_line ls >>= with_head

pub file_reads : Reads file_lines IsChoiceFile file_at
unfolding file_at
file_reads =
    reads_as (λ f. head_line ∷ rest_lines 0 f) file_lines IsWhole IsChoiceFile
    (λ ls. head_at ls >>= λ x. rest_at 256 0 x.1) file_at
    (reads_then (λ u. head_line ∷ []) AnyHead head_at (λ f. tt) (rest_lines 0) IsWhole (λ u ls. rest_at 256 0 ls)
    (reads_line_alone head_line AnyHead tt tt (λ u f. refl))
    (λ u h. reads_as (rest_lines 0) (rest_lines 0) IsWhole (λ f. IsWhole f × (tt ≡ u)) (rest_at 256 0) (rest_at 256 0) (rest_reads 256 0 (omega arith)) (λ f g. g.0) (λ f g. (g, refl)) (λ f g. refl) (λ ls. refl))
    (λ f g. tt))
    whole_is file_is (λ f g. file_rest f) (λ ls. by_head (behind_line head_line ls))
  where
    ended : (es : List Entry × List (List ℕ)) → (end_at (length es.0) es.1 >>= λ t. Ok (file_of es.0 t.0, t.1)) ≡ with_end 0 es
    ended es =
        let z : length es.0 ≡ 0 + length es.0 = omega arith in
        ap (λ (n : ℕ). end_at n es.1 >>= carried (file_of es.0)) z

    by_entries : (r : Reading (List ℕ) (List Entry)) → (r >>= λ es. end_at (length es.0) es.1 >>= λ t. Ok (file_of es.0 t.0, t.1)) ≡ (r >>= with_end 0)
    by_entries (Ok es) = ended es
    by_entries (Err left) = refl

    by_head : (r : Result (List (List ℕ)) ℕ) → (r >>= λ rest. entries_from 256 0 rest >>= λ es. end_at (length es.0) es.1 >>= λ t. Ok (file_of es.0 t.0, t.1)) ≡ ((r >>= with_head) >>= λ x. rest_at 256 0 x.1)
    by_head (Ok rest) = by_entries (entries_from 256 0 rest)
    by_head (Err left) = refl
