-- Listed layers are read exactly, line by line.
use Rattle.std.proofs.Common.{◌≡◌, ℕ, zero, suc, ◌≤◌, ◌+◌, List, [], ◌∷◌, ◌++◌, length, Option, Ok, refl, sym, ap, subst, ◌∙◌, arith, true, eqb, eq-eqb}
use Rattle.std.specs.List.{list_all, AllByRecursion}
use Rattle.std.proofs.lemmas.Bool.{eqb-true}
use Rattle.std.proofs.lemmas.List.{append-nil}
use Rattle.texts.specs.Lines.{spaced}
use Rattle.texts.specs.Grammar.{Reads, ◌>>=◌, first_by}
use Rattle.texts.proofs.LineEnds.{IsPlain}
use Rattle.texts.proofs.Readers.{reads_first, reads_none, reads_then, reads_as}
use Rattle.texts.proofs.Parsers.{both_true, plain_spaced, ReadsLine}
use Rattle.plan_geometry.specs.declared.spots.Way.TheVariants.{Lying}
use Rattle.plan_geometry.specs.declared.spots.Spot.{Spot}
use Rattle.layer_symmetry.specs.declared.symmetries.Move.{Move}
use Rattle.layer_symmetry.specs.declared.symmetries.Move.TheVariants.{Same}
use Rattle.plan_entries.specs.declared.listed.Listed.{Listed}
use Rattle.plan_entries.specs.Ranges.{is_within, is_place, listed_in_range}
use Rattle.listing_text.specs.Text.{case_words, case_lines, turn_words, layer_lines, listed_lines, layer_count_words, layers_lines}
use Rattle.listing_text.specs.Ranges.{AreLayersInRange}
use Rattle.listing_text.specs.Words.{case_of, turn_of, layer_count_of}
use Rattle.listing_text.specs.Lines.{cases_from, layer_from, listed_from, layers_at}
use Rattle.listing_text.proofs.OneWord.{Any}
use Rattle.listing_text.proofs.CaseLines.{GoodCase, spot_at, case_reads, case_solid, turn_reads, turn_solid, IsWithin, within_le, layer_count_reads, layer_count_solid}

-- a reader of one line
pub by_line : {A : Type 0} (text : A → List ℕ) (Fits : A → Type 0) (f : List ℕ → Option A) → ReadsLine text Fits f → (example : A) → Fits example → Reads (λ a. text a ∷ []) Fits (first_by f)
by_line text Fits f r example fits = reads_first f text Fits example fits r.back r.only

-- ---- cases

abbrev first_case : List Spot → Spot
first_case [] = spot_at 0 0 Lying
first_case (s ∷ ss) = s

abbrev other_cases : List Spot → List Spot
other_cases [] = []
other_cases (s ∷ ss) = ss

-- so many cases, each within the ranges
abbrev pub AreCases : ℕ → List Spot → Type 0
AreCases n ss = (length ss ≡ n) × (list_all is_place ss ≡ true)

-- the other cases, where the first is known
cases_behind : (n : ℕ) (s : Spot) → GoodCase s → Reads case_lines (AreCases n) (cases_from n)
    → Reads (λ ss. case_lines (other_cases ss)) (λ ss. AreCases (suc n) ss × (first_case ss ≡ s)) (λ ls. cases_from n ls >>= λ x. Ok (s ∷ x.0, x.1))
cases_behind n s good P =
    reads_as (λ ss. case_lines (other_cases ss) ++ []) (λ ss. case_lines (other_cases ss)) Fits Fits
    (λ ls. cases_from n ls >>= λ x. Ok (s ∷ x.0, x.1)) (λ ls. cases_from n ls >>= λ x. Ok (s ∷ x.0, x.1))
    (reads_then case_lines (AreCases n) (cases_from n) other_cases (λ ss. []) Fits (λ ss ls. Ok (s ∷ ss, ls)) P
    (λ ss f. reads_none (λ all. Fits all × (other_cases all ≡ ss)) (s ∷ ss) ((made ss f, refl), refl) (one ss))
    keyed)
    (λ ss f. f) (λ ss f. f) (λ ss f. sym (append-nil (case_lines (other_cases ss)))) (λ ls. refl)
  where
    Fits : List Spot → Type 0
    Fits ss = AreCases (suc n) ss × (first_case ss ≡ s)

    made : (ss : List Spot) → AreCases n ss → AreCases (suc n) (s ∷ ss)
    made ss f = (ap suc f.0, rw good f.1)

    one : (ss all : List Spot) → Fits all × (other_cases all ≡ ss) → all ≡ s ∷ ss
    one ss [] f = let e = f.0.0.0 in absurd (omega arith)
    one ss (d ∷ ds) f = ap (λ (x : Spot). x ∷ ds) f.0.1 ∙ ap (λ (xs : List Spot). s ∷ xs) f.1

    keyed : (all : List Spot) → Fits all → AreCases n (other_cases all)
    keyed [] f = let e = f.0.0 in absurd (omega arith)
    keyed (d ∷ ds) f = let e = f.0.0 in (omega arith, (both_true (is_place d) (list_all is_place ds) f.0.1).1)

pub cases_read : (n : ℕ) → Reads case_lines (AreCases n) (cases_from n)
unfolding cases_from
cases_read zero =
    reads_as (λ ss. []) case_lines (AreCases 0) (AreCases 0) (λ ls. Ok ([], ls)) (cases_from 0)
    (reads_none (AreCases 0) [] (refl, refl) none) (λ ss f. f) (λ ss f. f) (λ ss f. ap case_lines (none ss f)) (λ ls. refl)
  where
    none : (ss : List Spot) → AreCases 0 ss → ss ≡ []
    none [] f = refl
    none (s ∷ ss) f = let e = f.0 in absurd (omega arith)
cases_read (suc n) =
    reads_as (λ ss. spaced (case_words (first_case ss)) ∷ case_lines (other_cases ss)) case_lines (AreCases (suc n)) (AreCases (suc n))
    (λ ls. first_by case_of ls >>= λ s. cases_from n s.1 >>= λ x. Ok (s.0 ∷ x.0, x.1)) (cases_from (suc n))
    (reads_then (λ s. spaced (case_words s) ∷ []) GoodCase (first_by case_of) first_case (λ ss. case_lines (other_cases ss)) (AreCases (suc n)) (λ s ls. cases_from n ls >>= λ x. Ok (s ∷ x.0, x.1))
    (by_line (λ s. spaced (case_words s)) GoodCase case_of case_reads (spot_at 0 0 Lying) refl)
    (λ s good. cases_behind n s good (cases_read n))
    keyed)
    (λ ss f. f) (λ ss f. f) texts (λ ls. refl)
  where
    keyed : (ss : List Spot) → AreCases (suc n) ss → GoodCase (first_case ss)
    keyed [] f = refl
    keyed (s ∷ ss) f = (both_true (is_place s) (list_all is_place ss) f.1).0

    texts : (ss : List Spot) → AreCases (suc n) ss → case_lines ss ≡ spaced (case_words (first_case ss)) ∷ case_lines (other_cases ss)
    texts [] f = let e = f.0 in absurd (omega arith)
    texts (s ∷ ss) f = refl

-- ---- one layer

abbrev listed : Move → List Spot → Listed
listed m ss = record { turn = m; spots = ss }

abbrev pub GoodListed : ℕ → Listed → Type 0
GoodListed count l = listed_in_range count l ≡ true

pub listed_cases : (count : ℕ) (l : Listed) → GoodListed count l → AreCases count l.spots
listed_cases count l f =
    let p = both_true (eqb (length l.spots) count) (list_all is_place l.spots) f in
    (eqb-true (length l.spots) count p.0, p.1)

listed_good : (count : ℕ) (m : Move) (ss : List Spot) → AreCases count ss → GoodListed count (listed m ss)
listed_good count m ss f = rw (eq-eqb (length ss) count f.0, f.1) refl

-- the cases of a layer, where its move is known
spots_read : (count : ℕ) (m : Move) → Reads (λ l. case_lines l.spots) (λ l. GoodListed count l × (l.turn ≡ m)) (λ ls. cases_from count ls >>= λ cases. Ok (listed m cases.0, cases.1))
spots_read count m =
    reads_as (λ l. case_lines l.spots ++ []) (λ l. case_lines l.spots) Fits Fits
    (λ ls. cases_from count ls >>= λ cases. Ok (listed m cases.0, cases.1)) (λ ls. cases_from count ls >>= λ cases. Ok (listed m cases.0, cases.1))
    (reads_then case_lines (AreCases count) (cases_from count) (λ l. l.spots) (λ l. []) Fits (λ ss ls. Ok (listed m ss, ls)) (cases_read count)
    (λ ss f. reads_none (λ l. Fits l × (l.spots ≡ ss)) (listed m ss) ((listed_good count m ss f, refl), refl) (one ss))
    (λ l f. listed_cases count l f.0))
    (λ l f. f) (λ l f. f) (λ l f. sym (append-nil (case_lines l.spots))) (λ ls. refl)
  where
    Fits : Listed → Type 0
    Fits l = GoodListed count l × (l.turn ≡ m)

    one : (ss : List Spot) (l : Listed) → Fits l × (l.spots ≡ ss) → l ≡ listed m ss
    one ss l f = ap (λ (k : Move). listed k l.spots) f.0.1 ∙ ap (λ (xs : List Spot). listed m xs) f.1

layer_reads : (count number : ℕ) → number ≤ 9999999999 → Reads (layer_lines number) (GoodListed count) (layer_from count number)
unfolding layer_from
layer_reads count number le =
    reads_then (λ m. spaced (turn_words number m) ∷ []) Any (first_by (turn_of number)) (λ l. l.turn) (λ l. case_lines l.spots) (GoodListed count) (λ m ls. cases_from count ls >>= λ cases. Ok (listed m cases.0, cases.1))
    (by_line (λ m. spaced (turn_words number m)) Any (turn_of number) (turn_reads number le) Same tt)
    (λ m f. spots_read count m)
    (λ l f. tt)

-- ---- layers

abbrev first_listed : List Listed → Listed
first_listed [] = listed Same []
first_listed (l ∷ ls) = l

abbrev other_listed : List Listed → List Listed
other_listed [] = []
other_listed (l ∷ ls) = ls

-- so many layers of so many cases
abbrev AreListed : ℕ → ℕ → List Listed → Type 0
AreListed count n layers = (length layers ≡ n) × (list_all (listed_in_range count) layers ≡ true)

-- the other layers, where the first is known
listed_behind : (count n number : ℕ) (l : Listed) → GoodListed count l → Reads (listed_lines number) (AreListed count n) (listed_from count n number)
    → Reads (λ layers. listed_lines number (other_listed layers)) (λ layers. AreListed count (suc n) layers × (first_listed layers ≡ l)) (λ ls. listed_from count n number ls >>= λ x. Ok (l ∷ x.0, x.1))
listed_behind count n number l good P =
    reads_as (λ layers. listed_lines number (other_listed layers) ++ []) (λ layers. listed_lines number (other_listed layers)) Fits Fits
    (λ ls. listed_from count n number ls >>= λ x. Ok (l ∷ x.0, x.1)) (λ ls. listed_from count n number ls >>= λ x. Ok (l ∷ x.0, x.1))
    (reads_then (listed_lines number) (AreListed count n) (listed_from count n number) other_listed (λ layers. []) Fits (λ layers ls. Ok (l ∷ layers, ls)) P
    (λ layers f. reads_none (λ all. Fits all × (other_listed all ≡ layers)) (l ∷ layers) ((made layers f, refl), refl) (one layers))
    keyed)
    (λ layers f. f) (λ layers f. f) (λ layers f. sym (append-nil (listed_lines number (other_listed layers)))) (λ ls. refl)
  where
    Fits : List Listed → Type 0
    Fits layers = AreListed count (suc n) layers × (first_listed layers ≡ l)

    made : (layers : List Listed) → AreListed count n layers → AreListed count (suc n) (l ∷ layers)
    made layers f = (ap suc f.0, rw good f.1)

    one : (layers all : List Listed) → Fits all × (other_listed all ≡ layers) → all ≡ l ∷ layers
    one layers [] f = let e = f.0.0.0 in absurd (omega arith)
    one layers (d ∷ ds) f = ap (λ (x : Listed). x ∷ ds) f.0.1 ∙ ap (λ (xs : List Listed). l ∷ xs) f.1

    keyed : (all : List Listed) → Fits all → AreListed count n (other_listed all)
    keyed [] f = let e = f.0.0 in absurd (omega arith)
    keyed (d ∷ ds) f = let e = f.0.0 in (omega arith, (both_true (listed_in_range count d) (list_all (listed_in_range count) ds) f.0.1).1)

listed_read : (count n number : ℕ) → number + n ≤ 9999999999 → Reads (listed_lines number) (AreListed count n) (listed_from count n number)
unfolding listed_from
listed_read count zero number le =
    reads_as (λ layers. []) (listed_lines number) (AreListed count 0) (AreListed count 0) (λ ls. Ok ([], ls)) (listed_from count 0 number)
    (reads_none (AreListed count 0) [] (refl, refl) none) (λ layers f. f) (λ layers f. f) (λ layers f. ap (listed_lines number) (none layers f)) (λ ls. refl)
  where
    none : (layers : List Listed) → AreListed count 0 layers → layers ≡ []
    none [] f = refl
    none (l ∷ ls) f = let e = f.0 in absurd (omega arith)
listed_read count (suc n) number le =
    reads_as (λ layers. layer_lines number (first_listed layers) ++ listed_lines (number + 1) (other_listed layers)) (listed_lines number) (AreListed count (suc n)) (AreListed count (suc n))
    (λ ls. layer_from count number ls >>= λ l. listed_from count n (number + 1) l.1 >>= λ x. Ok (l.0 ∷ x.0, x.1)) (listed_from count (suc n) number)
    (reads_then (layer_lines number) (GoodListed count) (layer_from count number) first_listed (λ layers. listed_lines (number + 1) (other_listed layers)) (AreListed count (suc n)) (λ l ls. listed_from count n (number + 1) ls >>= λ x. Ok (l ∷ x.0, x.1))
    (layer_reads count number (omega arith))
    (λ l good. listed_behind count n (number + 1) l good (listed_read count n (number + 1) (omega arith)))
    keyed)
    (λ layers f. f) (λ layers f. f) texts (λ ls. refl)
  where
    keyed : (layers : List Listed) → AreListed count (suc n) layers → GoodListed count (first_listed layers)
    keyed [] f = let e = f.0 in absurd (omega arith)
    keyed (l ∷ ls) f = (both_true (listed_in_range count l) (list_all (listed_in_range count) ls) f.1).0

    texts : (layers : List Listed) → AreListed count (suc n) layers → listed_lines number layers ≡ layer_lines number (first_listed layers) ++ listed_lines (number + 1) (other_listed layers)
    texts [] f = let e = f.0 in absurd (omega arith)
    texts (l ∷ ls) f = refl

-- ---- the whole list

pub record InLayers (count : ℕ) (layers : List Listed) : Type 0 where
  pub within : IsWithin 8 (length layers)
  pub all : list_all (listed_in_range count) layers ≡ true

pub in_layers : (count : ℕ) (layers : List Listed) → AreLayersInRange count layers → InLayers count layers
in_layers count layers f =
    let p = both_true (is_within 8 (length layers)) (list_all (listed_in_range count) layers) f in
    record { within = p.0; all = p.1 }

pub few_layers : (count : ℕ) (layers : List Listed) → AreLayersInRange count layers → length layers ≤ 8
few_layers count layers f = within_le 8 (length layers) (in_layers count layers f).within

-- layers are read exactly
pub layers_read : (count : ℕ) → Reads layers_lines (AreLayersInRange count) (layers_at count)
unfolding layers_at layers_lines
layers_read count =
    reads_then (λ n. spaced (layer_count_words n) ∷ []) (IsWithin 8) (first_by layer_count_of) length (listed_lines 1) (AreLayersInRange count) (λ n ls. listed_from count n 1 ls)
    (by_line (λ n. spaced (layer_count_words n)) (IsWithin 8) layer_count_of layer_count_reads 1 refl)
    (λ n good. reads_as (listed_lines 1) (listed_lines 1) (AreListed count n) (λ layers. AreLayersInRange count layers × (length layers ≡ n)) (listed_from count n 1) (listed_from count n 1)
    (listed_read count n 1 (let small = within_le 8 n good in omega arith))
    (λ layers f. (f.1, (in_layers count layers f.0).all)) (made n good) (λ layers f. refl) (λ ls. refl))
    (λ layers f. (in_layers count layers f).within)
  where
    made : (n : ℕ) → IsWithin 8 n → (layers : List Listed) → AreListed count n layers → AreLayersInRange count layers × (length layers ≡ n)
    made n good layers f =
        let some : IsWithin 8 (length layers) = subst (IsWithin 8) (sym f.0) good in
        (rw (some, f.1) refl, f.0)

-- ---- no line of a text has an end inside

pub all_both : (P : List ℕ → Type 0) (xs ys : List (List ℕ)) → AllByRecursion P xs → AllByRecursion P ys → AllByRecursion P (xs ++ ys)
all_both P [] ys f g = g
all_both P (x ∷ xs) ys f g = (f.0, all_both P xs ys f.1 g)

case_lines_plain : (ss : List Spot) → list_all is_place ss ≡ true → AllByRecursion IsPlain (case_lines ss)
case_lines_plain [] f = tt
case_lines_plain (s ∷ ss) f =
    let p = both_true (is_place s) (list_all is_place ss) f in
    (plain_spaced (case_words s) (case_solid s p.0), case_lines_plain ss p.1)

listed_lines_plain : (count number : ℕ) (layers : List Listed) → number + length layers ≤ 9999999999 → list_all (listed_in_range count) layers ≡ true → AllByRecursion IsPlain (listed_lines number layers)
listed_lines_plain count number [] le f = tt
listed_lines_plain count number (l ∷ ls) le f =
    let p = both_true (listed_in_range count l) (list_all (listed_in_range count) ls) f in
    all_both IsPlain (layer_lines number l) (listed_lines (number + 1) ls)
    (plain_spaced (turn_words number l.turn) (turn_solid number l.turn (omega arith)), case_lines_plain l.spots (listed_cases count l p.0).1)
    (listed_lines_plain count (number + 1) ls (omega arith) p.1)

pub layers_plain : (count : ℕ) (layers : List Listed) → AreLayersInRange count layers → AllByRecursion IsPlain (layers_lines layers)
unfolding layers_lines
layers_plain count layers f =
    let few = few_layers count layers f in
    (plain_spaced (layer_count_words (length layers)) (layer_count_solid (length layers) (omega arith)), listed_lines_plain count 1 layers (omega arith) (in_layers count layers f).all)
