-- The line of a total is read exactly, from a line and from bytes.
use Rattle.std.proofs.Common.{◌≡◌, ℕ, ◌+◌, ◌-◌, ◌≤◌, List, [], ◌∷◌, ◌++◌, length, Some, None, refl, sym, ap, subst, ◌∙◌, arith, Bool, true, false, inl, inr}
use Rattle.std.specs.Prelude.{codes, decimal, option_map}
use Rattle.std.specs.Str.{bytes_eq}
use Rattle.std.specs.List.{AllByRecursion}
use Rattle.std.proofs.lemmas.Bool.{cases_Bool}
use Rattle.std.proofs.lemmas.Slice.Eq.{bytes_eq-Decides}
use Rattle.std.proofs.lemmas.List.{length-append}
use Rattle.std.proofs.lemmas.Fmt.{length-decimal-le}
use Rattle.texts.specs.Lines.{spaced, text_of, whole_lines, TakesLine}
use Rattle.texts.specs.Grammar.{Reads, first_by}
use Rattle.texts.proofs.LineEnds.{IsPlain, whole_text, taken_is}
use Rattle.texts.proofs.Readers.{reads_first}
use Rattle.texts.proofs.Parsers.{map_some, some_is, plain_spaced}
use Rattle.texts.proofs.Bytes.{has_one_spelling}
use Rattle.truck_floor.specs.declared.totals.Total.{Total}
use Rattle.truck_floor.specs.declared.totals.TotalLine.{TotalLine}
use Rattle.truck_floor.specs.declared.totals.TotalLine.TheVariants.{Numbers, Nothing}
use Rattle.truck_floor.specs.Text.{optimal_word, total_line, total_lines, total_text, IsTotalLine, TotalIsInFront}
use Rattle.truck_floor.specs.Words.{product_at, numbers_of, numbers_at, total_of}
use Rattle.truck_floor.specs.Laws.{TotalsHaveOneText, TotalLinesAreRead, TotalsAreShort}
use Rattle.truck_floor.proofs.TotalWords.{pick, numbers_reads, numbers_plain}

abbrev none_line : List ℕ
none_line = codes "total none"

abbrev numbers : Total → TotalLine
numbers t = Numbers t

none_has_no_numbers : numbers_of none_line ≡ None
unfolding numbers_of numbers_at product_at
none_has_no_numbers = refl

line_back : (t : TotalLine) → IsTotalLine t → total_of (total_line t) ≡ Some t
unfolding total_of
line_back Nothing f = refl
line_back (Numbers t) f =
    let line = total_line (Numbers t) in
    let read : numbers_of line ≡ Some t = numbers_reads.back t f in
    elim (cases_Bool (bytes_eq line none_line)) [
      | inl same_line ↦
          let same : line ≡ none_line = (bytes_eq-Decides line none_line).0 same_line in
          let none : numbers_of line ≡ None = ap numbers_of same ∙ none_has_no_numbers in
          let both : Some t ≡ None = sym read ∙ none in
          absurd cc
      | inr other ↦ rw other (ap (option_map numbers) read)
    ]

line_only : (line : List ℕ) (t : TotalLine) → total_of line ≡ Some t → IsTotalLine t × (line ≡ total_line t)
unfolding total_of
line_only line t e = elim (pick (bytes_eq line none_line) (Some Nothing) (option_map numbers (numbers_of line)) (Some t) e) [
  | inl p ↦
      let none : Nothing ≡ t = some_is Nothing t p.1 in
      let same = (bytes_eq-Decides line none_line).0 p.0 in
      (subst IsTotalLine none tt, same ∙ ap total_line none)
  | inr q ↦
      let m = map_some (numbers_of line) numbers t q.1 in
      let r = numbers_reads.only line m.0 m.1 in
      (subst IsTotalLine m.2 r.0, r.1 ∙ ap total_line m.2)
]

pub lines_are_read : TotalLinesAreRead
lines_are_read line t = (line_only line t, λ f. ap total_of f.1 ∙ line_back t f.0)

line_plain : (t : TotalLine) → IsTotalLine t → IsPlain (total_line t)
line_plain Nothing f = plain_spaced (codes "total" ∷ codes "none" ∷ []) (refl, (refl, tt))
line_plain (Numbers t) f = numbers_plain t f

pub lines_plain : (t : TotalLine) → IsTotalLine t → AllByRecursion IsPlain (total_lines t)
lines_plain t f = (line_plain t f, tt)

pub first_reads : Reads total_lines IsTotalLine (first_by total_of)
first_reads = reads_first total_of total_line IsTotalLine Nothing tt line_back line_only

pub one_text : TotalsHaveOneText
one_text = has_one_spelling total_lines IsTotalLine (first_by total_of) first_reads lines_plain

pub short : TotalsAreShort
short Nothing f = omega arith
short (Numbers t) f =
    let pallets_le = f.pallets.1 in
    let pallet_bound_le = f.pallet_bound.1 in
    let pallets = length-decimal-le 4 t.pallets (omega arith) (omega arith) (omega arith) in
    let cases = length-decimal-le 8 t.cases (omega arith) (omega arith) (omega (arith, f.cases)) in
    let pallet_bound = length-decimal-le 4 t.pallet_bound (omega arith) (omega arith) (omega arith) in
    let case_bound = length-decimal-le 8 t.case_bound (omega arith) (omega arith) (omega (arith, f.case_bound)) in
    let last = word_short t.optimal in
    omega (arith, words_length (decimal t.pallets) (decimal t.cases) (decimal t.pallet_bound) (decimal t.case_bound) (optimal_word t.optimal))
  where
    words_length : (a b c d last : List ℕ) → length (text_of (spaced (codes "total" ∷ a ∷ codes "x" ∷ b ∷ codes "of" ∷ c ∷ codes "x" ∷ d ∷ last ∷ []) ∷ []))
        ≡ length a + length b + length c + length d + length last + 18
    words_length a b c d last = simp length-append (omega arith)

    word_short : (b : Bool) → length (optimal_word b) ≤ 7
    word_short true = omega arith
    word_short false = omega arith

-- ---- the first line of bytes

first_line : (bytes line rest : List ℕ) → TakesLine bytes line rest → bytes ≡ text_of (line ∷ []) ++ rest
first_line bytes line rest taken = taken_is (line ∷ []) bytes rest taken.lines taken.unfinished

first_length : (bytes line rest : List ℕ) → TakesLine bytes line rest → length bytes ≡ length (text_of (line ∷ [])) + length rest
first_length bytes line rest taken = ap length (first_line bytes line rest taken) ∙ length-append (text_of (line ∷ [])) rest

pub shorter : (bytes line rest : List ℕ) → TakesLine bytes line rest → length rest ≤ length bytes
shorter bytes line rest taken = omega (arith, first_length bytes line rest taken)

pub found : (bytes line rest : List ℕ) (t : TotalLine) → TakesLine bytes line rest → total_of line ≡ Some t → TotalIsInFront bytes t (length bytes - length rest)
found bytes line rest t taken read =
    let is = line_only line t read in
    let size : length (total_text t) ≡ length bytes - length rest = ap (λ (l : List ℕ). length (text_of (l ∷ []))) (sym is.1) ∙ omega (arith, first_length bytes line rest taken) in
    record {
      fits = is.0;
      behind = rest;
      parts = first_line bytes line rest taken ∙ ap (λ (l : List ℕ). text_of (l ∷ []) ++ rest) is.1;
      len_is = sym size;
    }

-- the first line, where a total is in front
front_lines : (bytes : List ℕ) (t : TotalLine) (len : ℕ) (f : TotalIsInFront bytes t len) → whole_lines bytes ≡ total_line t ∷ whole_lines f.behind
front_lines bytes t len f = ap whole_lines f.parts ∙ whole_text (total_lines t) f.behind (lines_plain t f.fits)

front_line : (bytes line rest : List ℕ) (t : TotalLine) (len : ℕ) → TakesLine bytes line rest → TotalIsInFront bytes t len → line ≡ total_line t
front_line bytes line rest t len taken f = let both = sym taken.lines ∙ front_lines bytes t len f in cc

front_read : (bytes line rest : List ℕ) (t : TotalLine) (len : ℕ) → TakesLine bytes line rest → TotalIsInFront bytes t len → total_of line ≡ Some t
front_read bytes line rest t len taken f = ap total_of (front_line bytes line rest t len taken f) ∙ line_back t f.fits

pub only_found : (bytes line rest : List ℕ) (s t : TotalLine) (len : ℕ) → TakesLine bytes line rest → total_of line ≡ Some s → TotalIsInFront bytes t len
    → (s ≡ t) × (length bytes - length rest ≡ len)
only_found bytes line rest s t len taken read f =
    let is = front_line bytes line rest t len taken f in
    let size : length (text_of (line ∷ [])) ≡ length (total_text t) = ap (λ (l : List ℕ). length (text_of (l ∷ []))) is in
    let len_is = f.len_is in
    let whole = first_length bytes line rest taken in
    (some_is s t (sym read ∙ front_read bytes line rest t len taken f), omega arith)

pub none_read : (bytes line rest : List ℕ) (t : TotalLine) (len : ℕ) → TakesLine bytes line rest → total_of line ≡ None → TotalIsInFront bytes t len → ⊥
none_read bytes line rest t len taken read f = let both : Some t ≡ None = sym (front_read bytes line rest t len taken f) ∙ read in cc

pub none_whole : (bytes : List ℕ) (t : TotalLine) (len : ℕ) → whole_lines bytes ≡ [] → TotalIsInFront bytes t len → ⊥
none_whole bytes t len none f = let both = sym none ∙ front_lines bytes t len f in cc
