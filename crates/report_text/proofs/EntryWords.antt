-- The lines of numbers, of the status and of the planned instance are read exactly.
use Rattle.std.proofs.Common.{◌≡◌, ℕ, ◌≤◌, List, [], ◌∷◌, Some, None, refl, sym, ap, ◌∙◌, arith, true, leb, cond, inl, inr}
use Rattle.std.specs.Prelude.{decimal, codes, option_map}
use Rattle.std.specs.Str.{bytes_eq}
use Rattle.std.specs.List.{AllByRecursion}
use Rattle.std.proofs.lemmas.Bool.{leb-true, le-leb}
use Rattle.std.proofs.lemmas.Slice.Eq.{bytes_eq-Decides}
use Rattle.texts.specs.Lines.{spaced}
use Rattle.texts.specs.Words.{◌>>=◌, word_by, behind, number_up_to}
use Rattle.texts.proofs.Parsers.{Parses, parses_behind, parses_checked, parses_as, number_then, both_true, guard_some, map_some, some_is, IsWord, few_wide, words_spaced, ReadsLine, reads_line}
use Rattle.cert_text.proofs.OneWord.{Any, pick}
use Rattle.plan_geometry.specs.declared.instances.Inst.{Inst}
use Rattle.plan_entries.specs.Ranges.{is_within}
use Rattle.plan_entries.specs.declared.entries.Status.{Status}
use Rattle.plan_entries.specs.declared.entries.Status.TheVariants.{Optimal, StillOpen}
use Rattle.report_text.specs.Sides.{inst_of}
use Rattle.report_text.specs.LineTexts.{reduced_words, status_line}
use Rattle.report_text.specs.Words.{from_one, named_at, named_of, status_of_line, reduced_at, reduced_of_line}
use Rattle.report_text.proofs.Columns.{inst_back, inst_takes}

-- ---- a name and a number

abbrev pub named_words : List ℕ → ℕ → List (List ℕ)
named_words name n = name ∷ decimal n ∷ []

abbrev pub IsWithin : ℕ → ℕ → Type 0
IsWithin most n = is_within most n ≡ true

pub within_is : (most n : ℕ) → IsWithin most n → (1 ≤ n) × (n ≤ most)
within_is most n f = let b = both_true (leb 1 n) (leb n most) f in (leb-true 1 n b.0, leb-true n most b.1)

pub is_within_from : (most n : ℕ) → 1 ≤ n → n ≤ most → IsWithin most n
is_within_from most n low high = rw (le-leb 1 n low, le-leb n most high) refl

named_parses : (name : List ℕ) (most : ℕ) → most ≤ 9999999999 → Parses (named_words name) (IsWithin most) (named_at name most)
unfolding named_at
named_parses name most le =
    parses_as (named_words name) (named_words name) (IsWithin most) (IsWithin most)
    (λ ws. behind name ws >>= λ rest. word_by (number_up_to most) rest >>= λ n. from_one n.0 n.1) (named_at name most)
    (parses_behind name (λ n. decimal n ∷ []) (IsWithin most) (λ rest. word_by (number_up_to most) rest >>= λ n. from_one n.0 n.1)
    (number_then most le (λ n. n) (λ n. []) (IsWithin most) from_one
    (λ n hn. parses_checked (λ m. IsWithin most m × (m ≡ n)) n (leb 1 n) (λ m f. (f.1, ap (leb 1) (sym f.1) ∙ (both_true (leb 1 m) (leb m most) f.0).0)) (λ ok. (rw (ok, le-leb n most hn) refl, refl)))
    (λ n f. (within_is most n f).1)))
    (λ n f. f) (λ n f. f) (λ n f. refl) (λ ws. refl)

pub named_solid : (name : List ℕ) (most n : ℕ) → most ≤ 9999999999 → IsWord name → IsWithin most n → AllByRecursion IsWord (named_words name n)
named_solid name most n le word f =
    let high = (within_is most n f).1 in
    (word, (few_wide n (omega arith), tt))

pub named_reads : (name : List ℕ) (most : ℕ) → most ≤ 9999999999 → IsWord name → ReadsLine (λ n. spaced (named_words name n)) (IsWithin most) (named_of name most)
unfolding named_of
named_reads name most le word = reads_line (named_words name) (IsWithin most) (named_at name most) (named_parses name most le) (λ n f. words_spaced name (decimal n ∷ []) (named_solid name most n le word f))

-- ---- the status

pub status_reads : ReadsLine status_line Any status_of_line
status_reads = record { back = back; only = only }
  where
    back : (s : Status) → Any s → status_of_line (status_line s) ≡ Some s
    back Optimal f = refl
    back StillOpen f = refl

    only : (line : List ℕ) (s : Status) → status_of_line line ≡ Some s → Any s × (line ≡ status_line s)
    only line s e =
        elim (pick (bytes_eq line (codes "status optimal")) (Some Optimal) (cond (bytes_eq line (codes "status open")) (Some StillOpen) None) (Some s) e) [
          | inl p ↦ (tt, (bytes_eq-Decides line (codes "status optimal")).0 p.0 ∙ ap status_line (some_is Optimal s p.1))
          | inr q ↦ let g = guard_some (bytes_eq line (codes "status open")) StillOpen s q.1 in (tt, (bytes_eq-Decides line (codes "status open")).0 g.0 ∙ ap status_line g.1)
        ]

-- ---- the planned instance

abbrev InstIs : ℕ → ℕ → ℕ → ℕ → Inst → Type 0
InstIs l w a b i = (((Any i × (i.l_side ≡ l)) × (i.w_side ≡ w)) × (i.long ≡ a)) × (i.short ≡ b)

-- the four numbers are read: the instance is theirs
inst_parses : (l w a b : ℕ) → Parses {S = List ℕ} (λ i. []) (InstIs l w a b) (λ xs. option_map (λ inst. (inst, xs)) (inst_of l w a b))
inst_parses l w a b = record {
  again = λ i rest f. ap (option_map (λ inst. (inst, rest))) (inst_back l w a b i (f.0.0.0.1, f.0.0.1, f.0.1, f.1));
  takes = λ xs i rest e.
      let m = map_some (inst_of l w a b) (λ inst. (inst, xs)) (i, rest) e in
      let same : m.0 ≡ i = ap (λ (p : Inst × List (List ℕ)). p.0) m.2 in
      let h = inst_takes l w a b i (m.1 ∙ ap (λ (j : Inst). Some j) same) in
      (((((tt, h.0), h.1), h.2), h.3), ap (λ (p : Inst × List (List ℕ)). p.1) m.2);
}

reduced_parses : Parses reduced_words Any reduced_at
unfolding reduced_at
reduced_parses =
    parses_as reduced_words reduced_words Any Any
    (λ ws. behind (codes "reduced") ws >>= λ rest. word_by (number_up_to 4000) rest >>= λ l. word_by (number_up_to 4000) l.1 >>= λ w. word_by (number_up_to 4000) w.1 >>= λ a. word_by (number_up_to 4000) a.1 >>= λ b. option_map (λ inst. (inst, b.1)) (inst_of l.0 w.0 a.0 b.0)) reduced_at
    (parses_behind (codes "reduced") (λ i. decimal i.l_side ∷ decimal i.w_side ∷ decimal i.long ∷ decimal i.short ∷ []) Any
    (λ rest. word_by (number_up_to 4000) rest >>= λ l. word_by (number_up_to 4000) l.1 >>= λ w. word_by (number_up_to 4000) w.1 >>= λ a. word_by (number_up_to 4000) a.1 >>= λ b. option_map (λ inst. (inst, b.1)) (inst_of l.0 w.0 a.0 b.0))
    (number_then 4000 (omega arith) (λ i. i.l_side) (λ i. decimal i.w_side ∷ decimal i.long ∷ decimal i.short ∷ []) Any
    (λ l xs. word_by (number_up_to 4000) xs >>= λ w. word_by (number_up_to 4000) w.1 >>= λ a. word_by (number_up_to 4000) a.1 >>= λ b. option_map (λ inst. (inst, b.1)) (inst_of l w.0 a.0 b.0))
    (λ l hl. number_then 4000 (omega arith) (λ i. i.w_side) (λ i. decimal i.long ∷ decimal i.short ∷ []) (λ i. Any i × (i.l_side ≡ l))
    (λ w xs. word_by (number_up_to 4000) xs >>= λ a. word_by (number_up_to 4000) a.1 >>= λ b. option_map (λ inst. (inst, b.1)) (inst_of l w a.0 b.0))
    (λ w hw. number_then 4000 (omega arith) (λ i. i.long) (λ i. decimal i.short ∷ []) (λ i. (Any i × (i.l_side ≡ l)) × (i.w_side ≡ w))
    (λ a xs. word_by (number_up_to 4000) xs >>= λ b. option_map (λ inst. (inst, b.1)) (inst_of l w a b.0))
    (λ a ha. number_then 4000 (omega arith) (λ i. i.short) (λ i. []) (λ i. ((Any i × (i.l_side ≡ l)) × (i.w_side ≡ w)) × (i.long ≡ a))
    (λ b xs. option_map (λ inst. (inst, xs)) (inst_of l w a b))
    (λ b hb. inst_parses l w a b)
    (λ i f. let s1 = i.sides.ordered in let s2 = i.sides.long_max in omega arith))
    (λ i f. i.sides.long_max))
    (λ i f. i.sides.w_max))
    (λ i f. i.sides.l_max)))
    (λ i f. f) (λ i f. f) (λ i f. refl) (λ ws. refl)

pub reduced_solid : (i : Inst) → AllByRecursion IsWord (reduced_words i)
reduced_solid i =
    let s1 = i.sides.ordered in
    let s2 = i.sides.long_max in
    let s3 = i.sides.w_max in
    let s4 = i.sides.l_max in
    (refl, (few_wide i.l_side (omega arith), (few_wide i.w_side (omega arith), (few_wide i.long (omega arith), (few_wide i.short (omega arith), tt)))))

pub reduced_reads : ReadsLine (λ i. spaced (reduced_words i)) Any reduced_of_line
unfolding reduced_of_line
reduced_reads = reads_line reduced_words Any reduced_at reduced_parses (λ i f. words_spaced (codes "reduced") (decimal i.l_side ∷ decimal i.w_side ∷ decimal i.long ∷ decimal i.short ∷ []) (reduced_solid i))
