-- The lines of a case, of a layer's number and move, and of the number of layers are read exactly.
use Rattle.std.proofs.Common.{◌≡◌, ℕ, ◌≤◌, List, [], ◌∷◌, Some, refl, sym, ap, subst, ◌∙◌, arith, true, leb}
use Rattle.std.specs.Prelude.{decimal, codes}
use Rattle.std.specs.List.{AllByRecursion}
use Rattle.std.proofs.lemmas.Bool.{leb-true, le-leb}
use Rattle.plan_io.specs.Numbers.{number_of}
use Rattle.texts.specs.Lines.{spaced, words_of}
use Rattle.texts.specs.Words.{◌>>=◌, word_by, number_up_to, this_number}
use Rattle.texts.proofs.Parsers.{Parses, both_true, bind_some, guard_some, number_back, number_is, parses_word, parses_behind, parses_none, parses_then, parses_as, number_then, parses_this, IsWord, few_wide, words_spaced, ReadsLine, reads_line}
use Rattle.plan_geometry.specs.declared.spots.Way.{Way}
use Rattle.plan_geometry.specs.declared.spots.Spot.{Spot}
use Rattle.layer_symmetry.specs.declared.symmetries.Move.{Move}
use Rattle.layer_symmetry.specs.Moves.{move_name}
use Rattle.plan_entries.specs.Ranges.{is_within, is_place}
use Rattle.listing_text.specs.Text.{way_word, case_words, turn_words, layer_count_words}
use Rattle.listing_text.specs.Words.{way_of, case_at, case_of, move_of, turn_at, turn_of, within, number_within, layer_count_at, layer_count_of}
use Rattle.listing_text.proofs.OneWord.{Any, way_parses, way_solid, move_parses, move_solid}

-- ---- a case

abbrev pub GoodCase : Spot → Type 0
GoodCase s = is_place s ≡ true

abbrev pub spot_at : ℕ → ℕ → Way → Spot
spot_at x y way = record { x = x; y = y; way = way }

pub record SmallCase (s : Spot) : Type 0 where
  pub x_le : s.x ≤ 4000
  pub y_le : s.y ≤ 4000

pub small_case : (s : Spot) → GoodCase s → SmallCase s
small_case s f =
    let p = both_true (leb s.x 4000) (leb s.y 4000) f in
    record { x_le = leb-true s.x 4000 p.0; y_le = leb-true s.y 4000 p.1 }

abbrev IsThisCase : ℕ → ℕ → Way → Spot → Type 0
IsThisCase x y way s = ((GoodCase s × (s.x ≡ x)) × (s.y ≡ y)) × (s.way ≡ way)

case_good : (x y : ℕ) (way : Way) → x ≤ 4000 → y ≤ 4000 → GoodCase (spot_at x y way)
case_good x y way hx hy = rw (le-leb x 4000 hx, le-leb y 4000 hy) refl

case_is : (x y : ℕ) (way : Way) (s : Spot) → IsThisCase x y way s → s ≡ spot_at x y way
case_is x y way s f = ap (λ (n : ℕ). spot_at n s.y s.way) f.0.0.1 ∙ ap (λ (n : ℕ). spot_at x n s.way) f.0.1 ∙ ap (λ (w : Way). spot_at x y w) f.1

case_parses : Parses case_words GoodCase case_at
unfolding case_at
case_parses =
    number_then 4000 (omega arith) (λ s. s.x) (λ s. decimal s.y ∷ way_word s.way ∷ []) GoodCase (λ x ws. word_by (number_up_to 4000) ws >>= λ y. word_by way_of y.1 >>= λ way. Some (spot_at x y.0 way.0, way.1))
    (λ x hx. number_then 4000 (omega arith) (λ s. s.y) (λ s. way_word s.way ∷ []) (λ s. GoodCase s × (s.x ≡ x)) (λ y ws. word_by way_of ws >>= λ way. Some (spot_at x y way.0, way.1))
    (λ y hy. parses_then (λ k. way_word k ∷ []) Any (word_by way_of) (λ s. s.way) (λ s. []) (λ s. (GoodCase s × (s.x ≡ x)) × (s.y ≡ y)) (λ way ws. Some (spot_at x y way, ws)) way_parses
    (λ way hw. parses_none (IsThisCase x y way) (spot_at x y way) (((case_good x y way hx hy, refl), refl), refl) (case_is x y way))
    (λ s f. tt))
    (λ s f. (small_case s f.0).y_le))
    (λ s f. (small_case s f).x_le)

pub case_solid : (s : Spot) → GoodCase s → AllByRecursion IsWord (case_words s)
case_solid s f =
    let small = small_case s f in
    let x = small.x_le in
    let y = small.y_le in
    (few_wide s.x (omega arith), (few_wide s.y (omega arith), (way_solid s.way, tt)))

pub case_reads : ReadsLine (λ s. spaced (case_words s)) GoodCase case_of
unfolding case_of
case_reads = reads_line case_words GoodCase case_at case_parses (λ s f. words_spaced (decimal s.x) (decimal s.y ∷ way_word s.way ∷ []) (case_solid s f))

-- ---- a layer's number and move

turn_parses : (number : ℕ) → number ≤ 9999999999 → Parses (turn_words number) Any (turn_at number)
unfolding turn_at
turn_parses number le =
    parses_behind (codes "layer") (λ m. decimal number ∷ move_name m ∷ []) Any (λ rest. word_by (this_number number) rest >>= λ here. word_by move_of here.1)
    (parses_then (λ n. decimal n ∷ []) (λ n. n ≡ number) (word_by (this_number number)) (λ m. number) (λ m. move_name m ∷ []) Any (λ n ws. word_by move_of ws)
    (parses_this number le)
    (λ n hn. parses_as (λ m. move_name m ∷ []) (λ m. move_name m ∷ []) Any (λ m. Any m × (number ≡ n)) (word_by move_of) (word_by move_of) move_parses (λ m f. tt) (λ m f. (tt, sym hn)) (λ m f. refl) (λ ws. refl))
    (λ m f. refl))

pub turn_solid : (number : ℕ) (m : Move) → number ≤ 9999999999 → AllByRecursion IsWord (turn_words number m)
turn_solid number m le = (refl, (few_wide number le, (move_solid m, tt)))

pub turn_reads : (number : ℕ) → number ≤ 9999999999 → ReadsLine (λ m. spaced (turn_words number m)) Any (turn_of number)
unfolding turn_of
turn_reads number le = reads_line (turn_words number) Any (turn_at number) (turn_parses number le) (λ m f. words_spaced (codes "layer") (decimal number ∷ move_name m ∷ []) (turn_solid number m le))

-- ---- a number from 1 on

abbrev pub IsWithin : ℕ → ℕ → Type 0
IsWithin most n = is_within most n ≡ true

pub within_le : (most n : ℕ) → IsWithin most n → n ≤ most
within_le most n f = leb-true n most (both_true (leb 1 n) (leb n most) f).1

pub within_back : (most n : ℕ) → most ≤ 9999999999 → IsWithin most n → number_within most (decimal n) ≡ Some n
within_back most n le f =
    let small = within_le most n f in
    rw (number_back n (omega arith)) (rw f refl)

pub within_only : (most : ℕ) (w : List ℕ) (n : ℕ) → number_within most w ≡ Some n → IsWithin most n × (w ≡ decimal n)
within_only most w n e =
    let b = bind_some (number_of w) (within most) n e in
    let g = guard_some (is_within most b.0) b.0 n b.2 in
    let s = number_is w b.0 b.1 in
    (subst (IsWithin most) g.1 g.0, s.1 ∙ ap decimal g.1)

parses_within : (most : ℕ) → most ≤ 9999999999 → Parses (λ n. decimal n ∷ []) (IsWithin most) (word_by (number_within most))
parses_within most le = parses_word (number_within most) decimal (IsWithin most) (λ n f. within_back most n le f) (within_only most)

-- ---- how many layers

layer_count_parses : Parses layer_count_words (IsWithin 8) layer_count_at
unfolding layer_count_at
layer_count_parses = parses_behind (codes "layers") (λ n. decimal n ∷ []) (IsWithin 8) (word_by (number_within 8)) (parses_within 8 (omega arith))

pub layer_count_solid : (n : ℕ) → n ≤ 9999999999 → AllByRecursion IsWord (layer_count_words n)
layer_count_solid n le = (refl, (few_wide n le, tt))

pub layer_count_reads : ReadsLine (λ n. spaced (layer_count_words n)) (IsWithin 8) layer_count_of
unfolding layer_count_of
layer_count_reads = reads_line layer_count_words (IsWithin 8) layer_count_at layer_count_parses few
  where
    few : (n : ℕ) → IsWithin 8 n → words_of (spaced (layer_count_words n)) ≡ layer_count_words n
    few n f =
        let small = within_le 8 n f in
        words_spaced (codes "layers") (decimal n ∷ []) (layer_count_solid n (omega arith))
