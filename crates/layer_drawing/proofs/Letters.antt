-- The letter of the case that covers a cell, where the cases are seen from some number on.
use Rattle.std.proofs.Common.{◌≡◌, ℕ, zero, suc, ◌+◌, ◌<◌, List, [], ◌∷◌, length, drop, Option, Some, None, refl, sym, ap, ◌∙◌, arith, Bool, true, false, cond, ltb, inl, inr, one-add}
use Rattle.std.specs.Prelude.{option_map}
use Rattle.std.specs.List.{position, position_or_len, slice_get}
use Rattle.std.proofs.lemmas.Bool.{cases_Bool, ltb-true, ltb-false, le-ltb, lt-ltb}
use Rattle.plan_geometry.specs.declared.spots.Spot.{Spot}
use Rattle.plan_geometry.specs.declared.instances.Inst.{Inst}
use Rattle.layer_drawing.specs.Drawing.{covers, letter, character_of, cell_character}
use Rattle.layer_drawing.specs.Cells.{at_cell, IsPainted}

position-cons : {X : Type 0} (p : X → Bool) (x : X) (xs : List X) → position p (x ∷ xs) ≡ cond (p x) (Some 0) (option_map (λ i. suc i) (position p xs))
position-cons p x xs = elim (cases_Bool (p x)) [
  | inl passes ↦
      let some : ltb 0 (suc (length xs)) ≡ true = lt-ltb 0 (suc (length xs)) (omega arith) in
      rw (passes, some) refl
  | inr fails ↦ rw (fails, one-add) (elim (cases_Bool (ltb (position_or_len p xs) (length xs))) [
    | inl lt ↦
        let l = ltb-true (position_or_len p xs) (length xs) lt in
        let more : ltb (suc (position_or_len p xs)) (suc (length xs)) ≡ true = lt-ltb (suc (position_or_len p xs)) (suc (length xs)) (omega arith) in
        rw (more, lt) refl
    | inr ge ↦
        let l = ltb-false (position_or_len p xs) (length xs) ge in
        let more : ltb (suc (position_or_len p xs)) (suc (length xs)) ≡ false = le-ltb (suc (position_or_len p xs)) (suc (length xs)) (omega arith) in
        rw (more, ge) refl
  ])
]

-- the character of a cell by these cases, which are numbered from k on
abbrev pub shown : Inst → ℕ → List Spot → ℕ → ℕ → ℕ
shown I k spots x y = character_of (option_map (λ i. k + i) (position (covers I x y) spots))

pub shown_none : (I : Inst) (k x y : ℕ) → shown I k [] x y ≡ 46
shown_none I k x y = refl

pub shown_more : (I : Inst) (k : ℕ) (s : Spot) (spots : List Spot) (x y : ℕ) → shown I k (s ∷ spots) x y ≡ cond (covers I x y s) (letter k) (shown I (k + 1) spots x y)
shown_more I k s spots x y =
    ap (λ (o : Option ℕ). character_of (option_map (λ i. k + i) o)) (position-cons (covers I x y) s spots) ∙ here (covers I x y s) (position (covers I x y) spots)
  where
    here : (t : Bool) (o : Option ℕ) → character_of (option_map (λ i. k + i) (cond t (Some 0) (option_map (λ i. suc i) o))) ≡ cond t (letter k) (character_of (option_map (λ i. (k + 1) + i) o))
    here true o = let e : k + 0 ≡ k = omega arith in ap letter e
    here false None = refl
    here false (Some i) = let e : k + suc i ≡ (k + 1) + i = omega arith in ap letter e

pub shown_all : (I : Inst) (spots : List Spot) (x y : ℕ) → shown I 0 spots x y ≡ cell_character I spots x y
shown_all I spots x y = here (position (covers I x y) spots)
  where
    here : (o : Option ℕ) → character_of (option_map (λ i. 0 + i) o) ≡ character_of o
    here None = refl
    here (Some i) = let e : 0 + i ≡ i = omega arith in ap letter e

-- the case of a number, and those behind it
pub drop_get : (spots : List Spot) (k : ℕ) (s : Spot) → slice_get spots k ≡ Some s → drop k spots ≡ s ∷ drop (k + 1) spots
drop_get [] k s e = absurd cc
drop_get (t ∷ ts) zero s e = let same : t ≡ s = cc in ap (λ (u : Spot). u ∷ ts) same
drop_get (t ∷ ts) (suc k) s e = let n : suc k + 1 ≡ suc (k + 1) = omega arith in drop_get ts k s e ∙ ap (λ (m : ℕ). s ∷ drop m (t ∷ ts)) (sym n)

-- one case more is painted, over those behind it
pub case_painted : (I : Inst) (spots : List Spot) (k m : ℕ) (s : Spot) (c : ℕ) (old new : List ℕ) → slice_get spots k ≡ Some s → k + 1 ≡ m → c ≡ letter k → IsPainted I s c old new
    → ((x y : ℕ) → x < I.l_side → y < I.w_side → at_cell I old x y ≡ shown I m (drop m spots) x y)
    → (x y : ℕ) → x < I.l_side → y < I.w_side → at_cell I new x y ≡ shown I k (drop k spots) x y
case_painted I spots k m s c old new here next is painted before x y hx hy =
    painted x y hx hy ∙ ap (λ (n : ℕ). cond (covers I x y s) n (at_cell I old x y)) is
    ∙ ap (λ (n : ℕ). cond (covers I x y s) (letter k) n) (before x y hx hy ∙ ap (λ (n : ℕ). shown I n (drop n spots) x y) (sym next))
    ∙ sym (shown_more I k s (drop (k + 1) spots) x y) ∙ ap (λ (ss : List Spot). shown I k ss x y) (sym (drop_get spots k s here))
