-- The rows of a table are read exactly, one after the other.
use Rattle.std.proofs.Common.{◌≡◌, ℕ, zero, suc, ◌+◌, ◌*◌, List, [], ◌∷◌, ◌++◌, length, take, drop, Option, Ok, refl, sym, ap, ◌∙◌, arith, true, leb}
use Rattle.std.specs.List.{list_all, AllByRecursion}
use Rattle.std.proofs.lemmas.List.{length-append, append-nil, length-take, length-drop, take-append-drop, take_at, drop_at}
use Rattle.std.proofs.lemmas.List.Folds.{list_all-append}
use Rattle.texts.specs.Lines.{spaced}
use Rattle.texts.specs.Grammar.{Reads, ◌>>=◌, first_by}
use Rattle.texts.proofs.LineEnds.{IsPlain}
use Rattle.texts.proofs.Readers.{reads_first, reads_none, reads_then, reads_as}
use Rattle.texts.proofs.Parsers.{both_true, plain_spaced, ReadsLine, AreNumbers}
use Rattle.cert_text.specs.Text.{row_words, row_lines}
use Rattle.cert_text.specs.Words.{row_of}
use Rattle.cert_text.specs.Lines.{rows_from}
use Rattle.cert_text.proofs.RowWords.{row_reads, row_solid}

-- a reader of one line
pub by_line : {A : Type 0} (text : A → List ℕ) (Fits : A → Type 0) (f : List ℕ → Option A) → ReadsLine text Fits f → (example : A) → Fits example → Reads (λ a. text a ∷ []) Fits (first_by f)
by_line text Fits f r example fits = reads_first f text Fits example fits r.back r.only

-- ---- rows

abbrev pub AreLight : List ℕ → Type 0
AreLight cells = list_all (λ w. leb w 100000) cells ≡ true

-- so many rows of so many cells
abbrev pub AreCells : ℕ → ℕ → List ℕ → Type 0
AreCells x_side n cells = (length cells ≡ n * x_side) × AreLight cells

light_both : (xs ys : List ℕ) → AreLight xs → AreLight ys → AreLight (xs ++ ys)
light_both xs ys f g = list_all-append (λ w. leb w 100000) xs ys ∙ rw (f, g) refl

light_parts : (n : ℕ) (cells : List ℕ) → AreLight cells → AreLight (take n cells) × AreLight (drop n cells)
light_parts n cells f =
    both_true (list_all (λ w. leb w 100000) (take n cells)) (list_all (λ w. leb w 100000) (drop n cells)) (sym (list_all-append (λ w. leb w 100000) (take n cells) (drop n cells)) ∙ ap (list_all (λ w. leb w 100000)) (take-append-drop n cells) ∙ f)

pub light_front : (n : ℕ) (cells : List ℕ) → AreLight cells → AreLight (take n cells)
light_front n cells f = (light_parts n cells f).0

pub light_back : (n : ℕ) (cells : List ℕ) → AreLight cells → AreLight (drop n cells)
light_back n cells f = (light_parts n cells f).1

zeros : ℕ → List ℕ
zeros zero = []
zeros (suc n) = 0 ∷ zeros n

zeros_fit : (n : ℕ) → AreNumbers 100000 n (zeros n)
unfolding zeros
zeros_fit zero = (refl, refl)
zeros_fit (suc n) = let z = zeros_fit n in (ap suc z.0, z.1)

first_row : (x_side n : ℕ) (cells : List ℕ) → AreCells x_side (suc n) cells → AreNumbers 100000 x_side (take x_side cells)
first_row x_side n cells f =
    let len : length cells ≡ x_side + n * x_side = f.0 ∙ omega arith in
    (omega (arith, length-take x_side cells), light_front x_side cells f.1)

other_rows : (x_side n : ℕ) (cells : List ℕ) → AreCells x_side (suc n) cells → AreCells x_side n (drop x_side cells)
other_rows x_side n cells f =
    let len : length cells ≡ x_side + n * x_side = f.0 ∙ omega arith in
    (omega (arith, length-drop x_side cells), light_back x_side cells f.1)

-- the other rows, where the first is known
others_read : (x_side n : ℕ) (row : List ℕ) → AreNumbers 100000 x_side row → Reads (row_lines x_side n) (AreCells x_side n) (rows_from x_side n)
    → Reads (λ cs. row_lines x_side n (drop x_side cs)) (λ cs. AreCells x_side (suc n) cs × (take x_side cs ≡ row)) (λ ls. rows_from x_side n ls >>= λ x. Ok (row ++ x.0, x.1))
others_read x_side n row good P =
    reads_as (λ cs. row_lines x_side n (drop x_side cs) ++ []) (λ cs. row_lines x_side n (drop x_side cs)) Fits Fits
    (λ ls. rows_from x_side n ls >>= λ x. Ok (row ++ x.0, x.1)) (λ ls. rows_from x_side n ls >>= λ x. Ok (row ++ x.0, x.1))
    (reads_then (row_lines x_side n) (AreCells x_side n) (rows_from x_side n) (drop x_side) (λ cs. []) Fits (λ cs ls. Ok (row ++ cs, ls)) P
    (λ cs f. reads_none (λ all. Fits all × (drop x_side all ≡ cs)) (row ++ cs) ((made cs f, take_at row cs x_side good.0), drop_at row cs x_side good.0) (one cs))
    (λ all f. other_rows x_side n all f.0))
    (λ cs f. f) (λ cs f. f) (λ cs f. sym (append-nil (row_lines x_side n (drop x_side cs)))) (λ ls. refl)
  where
    Fits : List ℕ → Type 0
    Fits cs = AreCells x_side (suc n) cs × (take x_side cs ≡ row)

    made : (cs : List ℕ) → AreCells x_side n cs → AreCells x_side (suc n) (row ++ cs)
    made cs f =
        let a = good.0 in
        let b = f.0 in
        (omega (arith, length-append row cs), light_both row cs good.1 f.1)

    one : (cs all : List ℕ) → Fits all × (drop x_side all ≡ cs) → all ≡ row ++ cs
    one cs all f = sym (take-append-drop x_side all) ∙ ap (λ (t : List ℕ). t ++ drop x_side all) f.0.1 ∙ ap (λ (t : List ℕ). row ++ t) f.1

pub rows_read : (x_side n : ℕ) → Reads (row_lines x_side n) (AreCells x_side n) (rows_from x_side n)
unfolding rows_from
rows_read x_side zero =
    reads_as (λ cs. []) (row_lines x_side 0) (AreCells x_side 0) (AreCells x_side 0) (λ ls. Ok ([], ls)) (rows_from x_side 0)
    (reads_none (AreCells x_side 0) [] (omega arith, refl) none) (λ cs f. f) (λ cs f. f) (λ cs f. refl) (λ ls. refl)
  where
    none : (cs : List ℕ) → AreCells x_side 0 cs → cs ≡ []
    none [] f = refl
    none (c ∷ cs) f = let e = f.0 in absurd (omega arith)
rows_read x_side (suc n) =
    reads_as (λ cs. spaced (row_words (take x_side cs)) ∷ row_lines x_side n (drop x_side cs)) (row_lines x_side (suc n)) (AreCells x_side (suc n)) (AreCells x_side (suc n))
    (λ ls. first_by (row_of x_side) ls >>= λ row. rows_from x_side n row.1 >>= λ x. Ok (row.0 ++ x.0, x.1)) (rows_from x_side (suc n))
    (reads_then (λ row. spaced (row_words row) ∷ []) (AreNumbers 100000 x_side) (first_by (row_of x_side)) (take x_side) (λ cs. row_lines x_side n (drop x_side cs)) (AreCells x_side (suc n)) (λ row ls. rows_from x_side n ls >>= λ x. Ok (row ++ x.0, x.1))
    (by_line (λ row. spaced (row_words row)) (AreNumbers 100000 x_side) (row_of x_side) (row_reads x_side) (zeros x_side) (zeros_fit x_side))
    (λ row good. others_read x_side n row good (rows_read x_side n))
    (first_row x_side n))
    (λ cs f. f) (λ cs f. f) (λ cs f. refl) (λ ls. refl)

pub row_lines_plain : (x_side n : ℕ) (cells : List ℕ) → AreLight cells → AllByRecursion IsPlain (row_lines x_side n cells)
row_lines_plain x_side zero cells f = tt
row_lines_plain x_side (suc n) cells f = (plain_spaced (row_words (take x_side cells)) (row_solid (take x_side cells) (light_front x_side cells f)), row_lines_plain x_side n (drop x_side cells) (light_back x_side cells f))

pub length-row_lines : (x_side n : ℕ) (cells : List ℕ) → length (row_lines x_side n cells) ≡ n
length-row_lines x_side zero cells = refl
length-row_lines x_side (suc n) cells = ap suc (length-row_lines x_side n (drop x_side cells))
