-- The normal places of a side are one list, and a side with one place has no case.
use Rattle.std.proofs.Common.{◌≡◌, ℕ, zero, suc, ◌*◌, ◌≤◌, ◌<◌, ◌⊎◌, List, [], ◌∷◌, length, get_or, ap, sym, subst, refl, ◌∙◌, inl, inr, arith}
use Rattle.std.specs.List.{AllPairs, Contains}
use Rattle.std.proofs.lemmas.Bool.{cases_lt}
use Rattle.std.proofs.lemmas.List.Elements.{All-contains}
use Rattle.std.proofs.Math.Nat.{le_refl, mul-le-mul_left, mul-le-mul_right}
use Rattle.plan_geometry.specs.declared.instances.Inst.{Inst}
use Rattle.plan_geometry.proofs.LayoutSteps.{AllPairs-head, AllPairs-tail}
use Rattle.partitions.specs.Partitions.{IsNormal}
use Rattle.raster_points.specs.Places.{Lists}
use Rattle.block_tree.specs.Regions.{rectangle}
use Rattle.block_tree.proofs.AreaLemmas.{area-rectangle}
use Rattle.block_tables.specs.Numbers.{RoundsTo}
use Rattle.five_block.specs.Five.{IsFiveSize}
use Rattle.g4_patterns.specs.Four.{IsFourSize}
use Rattle.l_patterns.specs.Ells.{EllAll, IsSearchSize, IsEllSize}
use Rattle.l_patterns.proofs.EllLemmas.{number-none}
use Rattle.layer_patterns.specs.Patterns.{AreNormalPlaces, IsFiveSized, IsFourSized, IsEllSized}

abbrev IsRising : List ℕ → Type 0
IsRising xs = AllPairs (λ (x y : ℕ). x < y) xs

place-cases : (x z : ℕ) (xs : List ℕ) (k : ℕ) → k < length (x ∷ xs) → get_or (x ∷ xs) k z ≡ z → (x ≡ z) ⊎ Contains xs z
place-cases x z xs zero lt e = inl e
place-cases x z xs (suc k) lt e = inr (k, omega arith, e)

-- an element is the first one or one of the rest
cases : (x z : ℕ) (xs : List ℕ) → Contains (x ∷ xs) z → (x ≡ z) ⊎ Contains xs z
cases x z xs h = place-cases x z xs h.0 h.1 h.2

later : (x z : ℕ) (xs : List ℕ) → Contains xs z → Contains (x ∷ xs) z
later x z xs h = (suc h.0, omega (arith, h.1), h.2)

first-below : (x z : ℕ) (xs : List ℕ) → IsRising (x ∷ xs) → Contains xs z → x < z
first-below x z xs h c = subst (λ s. x < s) c.2 (AllPairs-head (λ (x y : ℕ). x < y) x xs h c.0 z c.1)

rest-same : (x y : ℕ) (xs ys : List ℕ) → x ≡ y → IsRising (x ∷ xs) → ((z : ℕ) → Contains (x ∷ xs) z → Contains (y ∷ ys) z) → (z : ℕ) → Contains xs z → Contains ys z
rest-same x y xs ys e h f z c =
    elim (cases y z ys (f z (later x z xs c))) [
      | inl q ↦ (let b = first-below x z xs h c in absurd (omega (arith, b, e, q)))
      | inr r ↦ r
    ]

heads-same : (x y : ℕ) (xs ys : List ℕ) → IsRising (x ∷ xs) → IsRising (y ∷ ys) → Contains (y ∷ ys) x → Contains (x ∷ xs) y → x ≡ y
heads-same x y xs ys h k f g =
    elim (cases y x ys f) [
      | inl e ↦ sym e
      | inr c ↦
          elim (cases x y xs g) [
            | inl e ↦ e
            | inr d ↦ (let p = first-below x y xs h d in let q = first-below y x ys k c in absurd (omega (arith, p, q)))
          ]
    ]

rising-same : (xs ys : List ℕ) → IsRising xs → IsRising ys → ((z : ℕ) → Contains xs z → Contains ys z) → ((z : ℕ) → Contains ys z → Contains xs z) → xs ≡ ys
rising-same [] [] h k f g = refl
rising-same [] (y ∷ ys) h k f g = let c = g y (0, omega arith, refl) in absurd (omega (arith, c.1))
rising-same (x ∷ xs) [] h k f g = let c = f x (0, omega arith, refl) in absurd (omega (arith, c.1))
rising-same (x ∷ xs) (y ∷ ys) h k f g =
    let e : x ≡ y = heads-same x y xs ys h k (f x (0, omega arith, refl)) (g y (0, omega arith, refl)) in
    let t : xs ≡ ys =
    rising-same xs ys (AllPairs-tail (λ (x y : ℕ). x < y) x xs h) (AllPairs-tail (λ (x y : ℕ). x < y) y ys k) (rest-same x y xs ys e h f) (rest-same y x ys xs (sym e) k g) in
    ap (λ s. s ∷ xs) e ∙ ap (λ l. y ∷ l) t

-- one list has exactly the numbers of which P is true
lists-same : (P : ℕ → Type 0) (xs ys : List ℕ) → Lists P xs → Lists P ys → xs ≡ ys
lists-same P xs ys h k =
    rising-same xs ys h.rising k.rising (λ z c. k.whole z (All-contains P xs z h.each c)) (λ z c. h.whole z (All-contains P ys z k.each c))

pub four-size : (I : Inst) (xs ys : List ℕ) → AreNormalPlaces I xs ys → IsFourSized I → IsFourSize xs ys
four-size I xs ys p h =
    subst (λ (l : List ℕ). IsFourSize l ys) (lists-same _ h.xs xs h.places.on_x p.on_x)
    (subst (λ (l : List ℕ). IsFourSize h.xs l) (lists-same _ h.ys ys h.places.on_y p.on_y) h.few)

pub five-size : (I : Inst) (xs ys : List ℕ) → AreNormalPlaces I xs ys → IsFiveSized I → IsFiveSize xs ys
five-size I xs ys p h =
    subst (λ (l : List ℕ). IsFiveSize l ys) (lists-same _ h.xs xs h.places.on_x p.on_x)
    (subst (λ (l : List ℕ). IsFiveSize h.xs l) (lists-same _ h.ys ys h.places.on_y p.on_y) h.few)

pub ell-size : (I : Inst) (xs ys : List ℕ) → AreNormalPlaces I xs ys → IsEllSized I → IsEllSize xs ys
ell-size I xs ys p h =
    subst (λ (l : List ℕ). IsEllSize l ys) (lists-same _ h.xs xs h.places.on_x p.on_x)
    (subst (λ (l : List ℕ). IsEllSize h.xs l) (lists-same _ h.ys ys h.places.on_y p.on_y) h.few)

-- ---- a side with one place

only : (x z : ℕ) → Contains (x ∷ []) z → x ≡ z
only x z c = elim (cases x z [] c) [ inl e ↦ e | inr d ↦ absurd (omega (arith, d.1)) ]

one-place : (xs : List ℕ) (v w : ℕ) → length xs ≤ 1 → Contains xs v → Contains xs w → v ≡ w
one-place [] v w h c d = absurd (omega (arith, c.1))
one-place (x ∷ []) v w h c d = sym (only x v c) ∙ only x w d
one-place (x ∷ y ∷ xs) v w h c d = absurd (omega (arith, h))

-- the one place is 0
rounds-none : (I : Inst) (side a : ℕ) (xs : List ℕ) → Lists (IsNormal side I.long I.short) xs → length xs ≤ 1 → RoundsTo I side a → a ≡ 0
rounds-none I side a xs l h d =
    let z : IsNormal side I.long I.short 0 = record { i = 0; j = 0; sum = omega arith; within = omega arith } in
    one-place xs a 0 h (l.whole a d.normal) (l.whole 0 z)

ell-none : (I : Inst) (a b n : ℕ) → (a ≡ 0) ⊎ (b ≡ 0) → EllAll I (rectangle a b) n → n ≡ 0
ell-none I a b n e h = number-none I (rectangle a b) n (le_refl a, le_refl b) (area-rectangle a b ∙ product e) h where
  product : (a ≡ 0) ⊎ (b ≡ 0) → a * b ≡ 0
  product (inl e) = ap (λ z. z * b) e ∙ omega arith
  product (inr e) = ap (λ z. a * z) e ∙ omega arith

-- sides of few pairs of places that a search does not take are those of which one has one place, and they have no case
pub ell-unsearched : (I : Inst) (xs ys : List ℕ) → AreNormalPlaces I xs ys → IsEllSize xs ys → (IsSearchSize xs ys → ⊥)
    → (a b n : ℕ) → RoundsTo I I.l_side a → RoundsTo I I.w_side b → EllAll I (rectangle a b) n → n ≡ 0
ell-unsearched I xs ys p few out a b n x y h =
    elim (cases_lt 1 (length xs)) [
      | inr w ↦ ell-none I a b n (inl (rounds-none I I.l_side a xs p.on_x (omega (arith, w)) x)) h
      | inl w ↦
          elim (cases_lt 1 (length ys)) [
            | inr v ↦ ell-none I a b n (inr (rounds-none I I.w_side b ys p.on_y (omega (arith, v)) y)) h
            | inl v ↦ absurd (let l : length xs * 2 ≤ length xs * length ys = mul-le-mul_left (length xs) (omega (arith, v)) in
                let m : 2 * length ys ≤ length xs * length ys = mul-le-mul_right (length ys) (omega (arith, w)) in
                out (record { product = omega (arith, few); x_few = omega (arith, l, few); y_few = omega (arith, m, few) }))
          ]
    ]
