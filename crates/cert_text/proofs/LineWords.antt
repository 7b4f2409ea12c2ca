-- The line of a table's columns or rows is read exactly.
use Rattle.std.proofs.Common.{◌≡◌, ℕ, zero, suc, ◌+◌, ◌≤◌, ◌<◌, List, [], ◌∷◌, ◌++◌, length, map, refl, sym, ap, subst, ◌∙◌, arith, true, false, Bool, leb, ltb, eq-eqb, get_or, inl, inr}
use Rattle.std.specs.Prelude.{decimal, ◌&&◌, ◌*◌}
use Rattle.std.specs.Int.{div_ceil}
use Rattle.std.specs.List.{list_all, AllByRecursion}
use Rattle.std.specs.List.Sorted.{IsStrictlyIncreasing}
use Rattle.std.proofs.lemmas.Bool.{cases_Bool, leb-true, le-leb, ltb-true, lt-ltb}
use Rattle.std.proofs.lemmas.List.{append-nil}
use Rattle.std.proofs.lemmas.List.Sums.{AllPass-from_list_all, list_all-from_AllPass}
use Rattle.line_tables.specs.Lines.{Lines, half, AreLines, IsLineTable}
use Rattle.texts.specs.Lines.{spaced}
use Rattle.texts.specs.Words.{◌>>=◌, numbers_by}
use Rattle.texts.proofs.Parsers.{Parses, both_true, parses_behind, parses_then, parses_as, parses_checked, AreNumbers, numbers_parse, numbers_solid, IsWord, words_spaced, ReadsLine, reads_line}
use Rattle.cert_text.specs.Ranges.{are_rising, are_lines, are_weights}
use Rattle.cert_text.specs.Text.{lines_words}
use Rattle.cert_text.specs.Words.{checked, lines_at, lines_of}

-- ---- rising numbers

pub rising_is : (ns : List ℕ) → are_rising ns ≡ true → IsStrictlyIncreasing ns
rising_is [] e k l = absurd (omega arith)
rising_is (n ∷ []) e k l = absurd (omega arith)
rising_is (n ∷ m ∷ ns) e zero l = ltb-true n m (both_true (ltb n m) (are_rising (m ∷ ns)) e).0
rising_is (n ∷ m ∷ ns) e (suc k) l =
    let q : suc (k + 1) ≡ suc k + 1 = omega arith in
    subst (λ (i : ℕ). get_or (m ∷ ns) k 0 < get_or (n ∷ m ∷ ns) i 0) q (rising_is (m ∷ ns) (both_true (ltb n m) (are_rising (m ∷ ns)) e).1 k (omega arith))

pub is_rising : (ns : List ℕ) → IsStrictlyIncreasing ns → are_rising ns ≡ true
is_rising [] up = refl
is_rising (n ∷ []) up = refl
is_rising (n ∷ m ∷ ns) up =
    let first : ltb n m ≡ true = lt-ltb n m (up 0 (omega arith)) in
    rw (first, is_rising (m ∷ ns) others) refl
  where
    others : IsStrictlyIncreasing (m ∷ ns)
    others k l =
        let q : suc k + 1 ≡ suc (k + 1) = omega arith in
        subst (λ (i : ℕ). get_or (m ∷ ns) k 0 < get_or (n ∷ m ∷ ns) i 0) q (up (suc k) (omega arith))

-- the first places of an axis, from h on
pub places : ℕ → ℕ → List ℕ
places h zero = []
places h (suc n) = h ∷ places (h + 1) n

-- so many lines
abbrev pub AreSoMany : ℕ → List ℕ → Type 0
AreSoMany n lines = AreNumbers 3999 n lines × (are_rising lines ≡ true)

places_low : (h n : ℕ) → h + n ≤ 4000 → AreNumbers 3999 n (places h n)
unfolding places
places_low h zero le = (refl, refl)
places_low h (suc n) le =
    let p = places_low (h + 1) n (omega arith) in
    (ap suc p.0, rw (le-leb h 3999 (omega arith), p.1) refl)

places_rise : (h n : ℕ) → are_rising (places h n) ≡ true
unfolding places
places_rise h zero = refl
places_rise h (suc zero) = refl
places_rise h (suc (suc n)) = rw (lt-ltb h (h + 1) (omega arith), places_rise (h + 1) (suc n)) refl

pub places_are_lines : (n : ℕ) → n ≤ 4000 → AreSoMany n (places 0 n)
places_are_lines n le = (places_low 0 n (omega arith), places_rise 0 n)

-- ---- the words of a line

numbers_rise : (n : ℕ) → Parses (map decimal) (AreSoMany n) (λ ws. numbers_by 3999 n ws >>= λ lines. checked lines.0 (are_rising lines.0) lines.1)
numbers_rise n =
    parses_as (λ lines. map decimal lines ++ []) (map decimal) (AreSoMany n) (AreSoMany n)
    (λ ws. numbers_by 3999 n ws >>= λ lines. checked lines.0 (are_rising lines.0) lines.1) (λ ws. numbers_by 3999 n ws >>= λ lines. checked lines.0 (are_rising lines.0) lines.1)
    (parses_then (map decimal) (AreNumbers 3999 n) (numbers_by 3999 n) (λ lines. lines) (λ lines. []) (AreSoMany n) (λ lines ws. checked lines (are_rising lines) ws) (numbers_parse 3999 n (omega arith))
    (λ lines f. parses_checked (λ all. AreSoMany n all × (all ≡ lines)) lines (are_rising lines) (λ all g. (g.1, ap are_rising (sym g.1) ∙ g.0.1)) (λ ok. ((f, ok), refl)))
    (λ lines f. f.0))
    (λ lines f. f) (λ lines f. f) (λ lines f. sym (append-nil (map decimal lines))) (λ ws. refl)

lines_parse : (name : List ℕ) (n : ℕ) → Parses (lines_words name) (AreSoMany n) (lines_at name n)
unfolding lines_at
lines_parse name n = parses_behind name (map decimal) (AreSoMany n) (λ ws. numbers_by 3999 n ws >>= λ lines. checked lines.0 (are_rising lines.0) lines.1) (numbers_rise n)

pub lines_solid : (name lines : List ℕ) → IsWord name → list_all (λ line. leb line 3999) lines ≡ true → AllByRecursion IsWord (lines_words name lines)
lines_solid name lines word f = (word, numbers_solid 3999 lines (omega arith) f)

pub lines_read : (name : List ℕ) (n : ℕ) → IsWord name → ReadsLine (λ lines. spaced (lines_words name lines)) (AreSoMany n) (lines_of name n)
unfolding lines_of
lines_read name n word = reads_line (lines_words name) (AreSoMany n) (lines_at name n) (lines_parse name n) (λ lines f. words_spaced name (map decimal lines) (lines_solid name lines word f.0.1))

-- ---- lines that were read are those of an axis, and the other way round

pub are_axis_lines : (n : ℕ) (lines : List ℕ) → 1 ≤ n → AreSoMany n lines → AreLines lines
are_axis_lines n lines some f =
    let count : length lines ≡ n = f.0.0 in
    record {
      some = omega arith;
      rising = rising_is lines f.1;
      low = λ i d l. let low = leb-true _ _ (AllPass-from_list_all (λ line. leb line 3999) lines f.0.1 i d l) in omega arith;
    }

pub axis_lines_are : (lines : List ℕ) → AreLines lines → are_lines lines ≡ true
axis_lines_are lines h =
    let low : list_all (λ line. leb line 3999) lines ≡ true = list_all-from_AllPass (λ line. leb line 3999) lines (λ i d l. le-leb _ _ (let p = h.low i d l in omega arith)) in
    rw (low, is_rising lines h.rising) refl

-- the lines and the weights of each table on lines are within the ranges
pub table_fits : (t : Lines) → IsLineTable t → (are_lines t.columns && (are_lines t.rows && are_weights (half (length t.rows) * half (length t.columns)) t.quarter)) ≡ true
table_fits t h =
    let light : list_all (λ w. leb w 100000) t.quarter ≡ true = list_all-from_AllPass (λ w. leb w 100000) t.quarter (λ i d l. le-leb _ _ (h.light i d l)) in
    let weights : are_weights (half (length t.rows) * half (length t.columns)) t.quarter ≡ true = rw (eq-eqb (length t.quarter) (half (length t.rows) * half (length t.columns)) h.count, light) refl in
    rw (axis_lines_are t.columns h.columns, axis_lines_are t.rows h.rows, weights) refl

-- a test that answers whether numbers rise is the one of the definition
pub rising_tested : (ns : List ℕ) (r : Bool) → (r ≡ true → IsStrictlyIncreasing ns) × (IsStrictlyIncreasing ns → r ≡ true) → r ≡ are_rising ns
rising_tested ns true t = sym (is_rising ns (t.0 refl))
rising_tested ns false t = elim (cases_Bool (are_rising ns)) [
  | inl y ↦ t.1 (rising_is ns y) ∙ sym y
  | inr n ↦ sym n
]

pub half_is : (n : ℕ) → div_ceil n 2 ≡ half n
half_is n = omega arith
