-- A layer has one list of variants; it begins with the layer itself and has at most eight.
use Rattle.std.proofs.Common.{◌≡◌, ℕ, zero, suc, ◌<◌, ◌≤◌, ◌⊎◌, List, [], ◌∷◌, length, get_or, slice_get, Some, ap, sym, subst, refl, ◌∙◌, inl, inr, arith, IsPermutation}
use Rattle.std.specs.List.{All, AllPairs, Contains}
use Rattle.std.proofs.lemmas.Bool.{cases_order}
use Rattle.std.proofs.lemmas.List.{get_or_default}
use Rattle.std.proofs.lemmas.List.Sorted.{IsPermutation-refl}
use Rattle.std.proofs.lemmas.Option.{slice_get_read}
use Rattle.plan_geometry.specs.declared.spots.Spot.{Spot}
use Rattle.plan_geometry.specs.declared.instances.Inst.{Inst}
use Rattle.plan_geometry.specs.Placed.{Placed, IsLayer}
use Rattle.plan_geometry.specs.Layout.{IsLayout, IsInOrder}
use Rattle.plan_geometry.proofs.LayoutSteps.{AllPairs-head, AllPairs-tail}
use Rattle.layer_symmetry.specs.declared.symmetries.Move.{Move}
use Rattle.layer_symmetry.specs.declared.symmetries.Move.TheVariants.{Same}
use Rattle.layer_symmetry.specs.Moves.{image_spots, IsImage, move_number}
use Rattle.layer_symmetry.specs.Variants.{IsVariant, ComesEarlier, AreDistinct, IsVariants, IsOnlyListOfVariants, IsLayerOf}
use Rattle.layer_symmetry.proofs.TurnSteps.{layer-image, count-image}
use Rattle.layer_symmetry.proofs.VariantSteps.{image-unique, same-move, below-eight}

-- ---- two lists in a strict order with the same elements are the same list

place-cases : {T : Type 0} (x z : T) (xs : List T) (k : ℕ) → k < length (x ∷ xs) → get_or (x ∷ xs) k z ≡ z → (x ≡ z) ⊎ Contains xs z
place-cases x z xs zero lt e = inl e
place-cases x z xs (suc k) lt e = inr (k, omega arith, e)

-- an element is the first one or one of the rest
first-or-rest : {T : Type 0} (x z : T) (xs : List T) → Contains (x ∷ xs) z → (x ≡ z) ⊎ Contains xs z
first-or-rest x z xs h = place-cases x z xs h.0 h.1 h.2

in-rest : {T : Type 0} (x z : T) (xs : List T) → Contains xs z → Contains (x ∷ xs) z
in-rest x z xs h = (suc h.0, omega (arith, h.1), h.2)

first-before : {T : Type 0} (R : T → T → Type 0) (x z : T) (xs : List T) → AllPairs R (x ∷ xs) → Contains xs z → R x z
first-before R x z xs h c = subst (λ t. R x t) c.2 (AllPairs-head R x xs h c.0 z c.1)

-- each element of the one list is one of the other
abbrev Includes : {T : Type 0} → List T → List T → Type 0
Includes {T} xs ys = (z : T) → Contains xs z → Contains ys z

-- no two elements stand before each other, nor one before itself
abbrev IsStrict : {T : Type 0} → (T → T → Type 0) → Type 0
IsStrict {T} R = (x y : T) → R x y → (x ≡ y) ⊎ R y x → ⊥

rest-included : {T : Type 0} (R : T → T → Type 0) (x y : T) (xs ys : List T) → IsStrict R → x ≡ y → AllPairs R (x ∷ xs) → Includes (x ∷ xs) (y ∷ ys) → Includes xs ys
rest-included R x y xs ys strict e h f z c =
    elim (first-or-rest y z ys (f z (in-rest x z xs c))) [
      | inl q ↦ absurd (strict x z (first-before R x z xs h c) (inl (e ∙ q)))
      | inr r ↦ r
    ]

firsts-same : {T : Type 0} (R : T → T → Type 0) (x y : T) (xs ys : List T) → IsStrict R → AllPairs R (x ∷ xs) → AllPairs R (y ∷ ys) → Includes (x ∷ xs) (y ∷ ys) → Includes (y ∷ ys) (x ∷ xs) → x ≡ y
firsts-same R x y xs ys strict h k f g =
    elim (first-or-rest y x ys (f x (0, omega arith, refl))) [
      | inl e ↦ sym e
      | inr c ↦
          elim (first-or-rest x y xs (g y (0, omega arith, refl))) [
            | inl e ↦ e
            | inr d ↦ absurd (strict x y (first-before R x y xs h d) (inr (first-before R y x ys k c)))
          ]
    ]

strict-same : {T : Type 0} (R : T → T → Type 0) (xs ys : List T) → IsStrict R → AllPairs R xs → AllPairs R ys → Includes xs ys → Includes ys xs → xs ≡ ys
strict-same R [] [] strict h k f g = refl
strict-same R [] (y ∷ ys) strict h k f g = let c = g y (0, omega arith, refl) in absurd (omega (arith, c.1))
strict-same R (x ∷ xs) [] strict h k f g = let c = f x (0, omega arith, refl) in absurd (omega (arith, c.1))
strict-same R (x ∷ xs) (y ∷ ys) strict h k f g =
    let e : x ≡ y = firsts-same R x y xs ys strict h k f g in
    let t : xs ≡ ys =
    strict-same R xs ys strict (AllPairs-tail R x xs h) (AllPairs-tail R y ys k) (rest-included R x y xs ys strict e h f) (rest-included R y x ys xs strict (sym e) k g) in
    ap (λ s. s ∷ xs) e ∙ ap (λ l. y ∷ l) t

-- ---- a variant of one list stands in each

abbrev pair : Move → Placed → Move × Placed
pair m p = (m, p)

pairs-same : (m n : Move) (p q : Placed) → m ≡ n → p ≡ q → pair m p ≡ pair n q
pairs-same m n p q e f = ap (λ k. pair k p) e ∙ ap (λ r. pair n r) f

abbrev placed : Inst → List Spot → Placed
placed I xs = record { inst = I; spots = xs }

placed-same : (I K : Inst) (xs ys : List Spot) → I ≡ K → xs ≡ ys → placed I xs ≡ placed K ys
placed-same I K xs ys e f = ap (λ i. placed i xs) e ∙ ap (λ l. placed K l) f

-- variants of one layer with the same move and the same cases are the same
variants-same : (I : Inst) (xs : List Spot) (v w : Move × Placed) → IsVariant I xs v → IsVariant I xs w → move_number v.0 ≡ move_number w.0 → v.1.spots ≡ w.1.spots → v ≡ w
variants-same I xs v w a b m e =
    pairs-same v.0 w.0 v.1 w.1 (same-move v.0 w.0 m) (placed-same v.1.inst w.1.inst v.1.spots w.1.spots (a.inst ∙ sym b.inst) e)

-- variants at two places of the list that have the same cases are the same
places-same : (vs : List (Move × Placed)) (v u : Move × Placed) (k p : ℕ) → AllPairs AreDistinct vs → k < length vs → p < length vs → get_or vs k v ≡ v → get_or vs p u ≡ u → u.1.spots ≡ v.1.spots → u ≡ v
places-same vs v u k p distinct lt lt' e f same =
    let f' : get_or vs p v ≡ u = get_or_default vs p v u lt' ∙ f in
    elim (cases_order p k) [
      | inl q ↦ sym f' ∙ (ap (λ i. get_or vs i v) q ∙ e)
      | inr o ↦
          elim o [
            | inl l ↦ absurd (distinct p k v l lt (rw (f', e) same))
            | inr l ↦ absurd (distinct k p v l lt' (rw (f', e) (sym same)))
          ]
    ]

shared : (I : Inst) (xs : List Spot) (vs ws : List (Move × Placed)) → IsVariants I xs vs → IsVariants I xs ws → Includes vs ws
shared I xs vs ws a b v c =
    let is : IsVariant I xs v = subst (λ z. IsVariant I xs z) c.2 (a.each c.0 v c.1) in
    let h = b.complete v.0 is.lawful in
    let w = h.1 in
    let is' : IsVariant I xs w = subst (λ z. IsVariant I xs z) h.3 (b.each h.0 w h.2) in
    let same : w.1.spots ≡ v.1.spots = image-unique I v.0 xs w.1.spots v.1.spots h.4.1 is.image in
    let j = a.complete w.0 is'.lawful in
    let u = j.1 in
    let same' : u.1.spots ≡ w.1.spots = image-unique I w.0 xs u.1.spots w.1.spots j.4.1 is'.image in
    let e : u ≡ v = places-same vs v u c.0 j.0 a.distinct c.1 j.2 c.2 j.3 (same' ∙ same) in
    let least : move_number v.0 ≤ move_number w.0 = subst (λ z. move_number z.0 ≤ move_number w.0) e j.4.0 in
    let one : w ≡ v = variants-same I xs w v is' is (omega (arith, h.4.0)) same in
    subst (λ z. Contains ws z) one (h.0, h.2, h.3)

earlier-strict : IsStrict ComesEarlier
earlier-strict v w h e =
    elim e [
      | inl same ↦ let z : move_number v.0 ≡ move_number w.0 = ap (λ x. move_number x.0) same in omega arith
      | inr back ↦ omega arith
    ]

pub variants-unique : (I : Inst) (xs : List Spot) (vs : List (Move × Placed)) → IsVariants I xs vs → IsOnlyListOfVariants I xs vs
variants-unique I xs vs a = λ ws b.
    strict-same ComesEarlier ws vs earlier-strict b.in_order a.in_order (shared I xs ws vs b a) (shared I xs vs ws a b)

-- ---- the first variant, and how many there are

image-same : (I : Inst) (xs : List Spot) → image_spots I Same xs ≡ xs
image-same I [] = refl
image-same I (s ∷ xs) = ap (λ l. s ∷ l) (image-same I xs)

pub variants-first : (I : Inst) (xs : List Spot) (vs : List (Move × Placed)) → IsInOrder xs → IsVariants I xs vs → slice_get vs 0 ≡ Some (pair Same (placed I xs))
variants-first I xs vs order a =
    let h = a.complete Same tt in
    let w = h.1 in
    let itself : IsImage I Same xs xs = record { same = subst (λ l. IsPermutation l xs) (sym (image-same I xs)) (IsPermutation-refl xs); in_order = order } in
    let same : w.1.spots ≡ xs = image-unique I Same xs w.1.spots xs h.4.1 itself in
    let is : IsVariant I xs w = subst (λ z. IsVariant I xs z) h.3 (a.each h.0 w h.2) in
    let e : w ≡ pair Same (placed I xs) = pairs-same w.0 Same w.1 (placed I xs) (same-move w.0 Same (omega (arith, h.4.0))) (placed-same w.1.inst I w.1.spots xs is.inst same) in
    let first : h.0 ≡ 0 =
    elim (cases_order h.0 0) [
      | inl z ↦ z
      | inr o ↦
          elim o [
            | inl l ↦ omega arith
            | inr l ↦
                let x : move_number (get_or vs 0 w).0 < move_number (get_or vs h.0 w).0 = a.in_order 0 h.0 w l h.2 in
                let y : move_number (get_or vs 0 w).0 < move_number w.0 = subst (λ z. move_number (get_or vs 0 w).0 < move_number z.0) h.3 x in
                absurd (omega (arith, h.4.0))
          ]
    ] in
    let at : get_or vs 0 w ≡ w = subst (λ k. get_or vs k w ≡ w) first h.3 in
    slice_get_read vs (length vs) 0 w refl (omega (arith, h.2)) (sym at) ∙ ap Some e

number-grows : (vs : List (Move × Placed)) (k : ℕ) (d : Move × Placed) → AllPairs ComesEarlier vs → k < length vs → k ≤ move_number (get_or vs k d).0
number-grows vs zero d h lt = omega arith
number-grows vs (suc k) d h lt =
    omega (arith, number-grows vs k d h (omega arith), h k (suc k) d (omega arith) lt)

pub variants-few : (I : Inst) (xs : List Spot) (vs : List (Move × Placed)) → IsVariants I xs vs → length vs ≤ 8
variants-few I xs vs a =
    elim (cases_order 8 (length vs)) [
      | inl e ↦ omega arith
      | inr o ↦
          elim o [
            | inl l ↦
                let d : Move × Placed = (Same, record { inst = I; spots = [] }) in
                let m = (get_or vs 8 d).0 in
                absurd (omega (arith, number-grows vs 8 d a.in_order l, below-eight (get_or vs 8 d).0))
            | inr l ↦ omega arith
          ]
    ]

pub variants-layers : (I : Inst) (xs : List Spot) (vs : List (Move × Placed)) → IsLayout I xs → IsVariants I xs vs → All (IsLayerOf I (length xs)) vs
variants-layers I xs vs l a = λ k d lt.
    let v = get_or vs k d in
    let is : IsVariant I xs v = a.each k d lt in
    record {
      inst = is.inst;
      layer = subst (λ J. IsLayer J v.1.spots) (sym is.inst) (layer-image I v.0 xs v.1.spots is.lawful l is.image);
      count = count-image I v.0 xs v.1.spots is.image;
    }
