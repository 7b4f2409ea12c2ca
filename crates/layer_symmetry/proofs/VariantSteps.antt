-- The list of variants grows a move at a time, and there is only one.
use Rattle.std.proofs.Common.{◌≡◌, ℕ, zero, suc, ◌+◌, ◌<◌, ◌≤◌, true, eqb, List, [], ◌∷◌, ◌++◌, length, get_or, take, ap, sym, subst, refl, ◌∙◌, inl, inr, arith, length-take, get_or-take}
use Rattle.std.specs.List.{All, Any}
use Rattle.std.proofs.lemmas.Bool.{cases_Bool, cases_order, eq-eqb}
use Rattle.std.proofs.lemmas.Bool.Decides.{Decides-eqb}
use Rattle.std.proofs.lemmas.List.{length_push, get_or_append_left}
use Rattle.std.proofs.lemmas.List.Elements.{All-push}
use Rattle.std.proofs.lemmas.List.Quantifiers.{all_pairs_push, Any-push}
use Rattle.std.proofs.lemmas.List.Sorted.{IsPermutation-sym, IsPermutation-trans}
use Rattle.plan_geometry.specs.declared.spots.Spot.{Spot}
use Rattle.plan_geometry.specs.declared.instances.Inst.{Inst}
use Rattle.plan_geometry.specs.Placed.{Placed}
use Rattle.plan_geometry.proofs.Unique.{in_order-permutation}
use Rattle.layer_symmetry.specs.declared.symmetries.Move.{Move}
use Rattle.layer_symmetry.specs.declared.symmetries.Move.TheVariants.{Same, MirrorX, MirrorY, HalfTurn, Diagonal, Anti, Left, Right}
use Rattle.layer_symmetry.specs.Moves.{image_spots, IsImage, IsLawfulMove, lawful_moves, move_number}
use Rattle.layer_symmetry.specs.Variants.{IsVariant, ComesEarlier, AreDistinct, StandsBy, IsVariants, IsVariantsBefore, IsAdded}

-- a layer has one image under a move
pub image-unique : (I : Inst) (m : Move) (xs ys zs : List Spot) → IsImage I m xs ys → IsImage I m xs zs → ys ≡ zs
image-unique I m xs ys zs a b =
    in_order-permutation ys zs a.in_order b.in_order (IsPermutation-trans ys (image_spots I m xs) zs (IsPermutation-sym (image_spots I m xs) ys a.same) b.same)

-- ---- the order of the moves

abbrev pub eight : List Move
eight = Same ∷ MirrorX ∷ MirrorY ∷ HalfTurn ∷ Diagonal ∷ Anti ∷ Left ∷ Right ∷ []

at_number : (m : Move) → get_or eight (move_number m) Same ≡ m
at_number Same = refl
at_number MirrorX = refl
at_number MirrorY = refl
at_number HalfTurn = refl
at_number Diagonal = refl
at_number Anti = refl
at_number Left = refl
at_number Right = refl

pub same-move : (m n : Move) → move_number m ≡ move_number n → m ≡ n
same-move m n e = sym (at_number m) ∙ (ap (λ k. get_or eight k Same) e ∙ at_number n)

number-eight : (i : ℕ) (d : Move) → i < 8 → move_number (get_or eight i d) ≡ i
number-eight zero d h = refl
number-eight (suc zero) d h = refl
number-eight (suc (suc zero)) d h = refl
number-eight (suc (suc (suc zero))) d h = refl
number-eight (suc (suc (suc (suc zero)))) d h = refl
number-eight (suc (suc (suc (suc (suc zero))))) d h = refl
number-eight (suc (suc (suc (suc (suc (suc zero)))))) d h = refl
number-eight (suc (suc (suc (suc (suc (suc (suc zero))))))) d h = refl
number-eight (suc (suc (suc (suc (suc (suc (suc (suc i)))))))) d h = absurd (omega arith)

abbrev four : List Move
four = Same ∷ MirrorX ∷ MirrorY ∷ HalfTurn ∷ []

number-four : (i : ℕ) (d : Move) → i < 4 → move_number (get_or four i d) ≡ i
number-four zero d h = refl
number-four (suc zero) d h = refl
number-four (suc (suc zero)) d h = refl
number-four (suc (suc (suc zero))) d h = refl
number-four (suc (suc (suc (suc i)))) d h = absurd (omega arith)

pub number-lawful : (I : Inst) (i : ℕ) (d : Move) → i < length (lawful_moves I) → move_number (get_or (lawful_moves I) i d) ≡ i
number-lawful I i d h =
    elim (cases_Bool (eqb I.l_side I.w_side)) [
      | inl e ↦ rw e (let z : i < 8 = rw e at h in number-eight i d z)
      | inr e ↦ rw e (let z : i < 4 = rw e at h in number-four i d z)
    ]

pub below-eight : (n : Move) → move_number n < 8
below-eight Same = omega arith
below-eight MirrorX = omega arith
below-eight MirrorY = omega arith
below-eight HalfTurn = omega arith
below-eight Diagonal = omega arith
below-eight Anti = omega arith
below-eight Left = omega arith
below-eight Right = omega arith

below-four : (I : Inst) (n : Move) → (I.l_side ≡ I.w_side → ⊥) → IsLawfulMove I n → move_number n < 4
below-four I Same f k = omega arith
below-four I MirrorX f k = omega arith
below-four I MirrorY f k = omega arith
below-four I HalfTurn f k = omega arith
below-four I Diagonal f k = absurd (f k)
below-four I Anti f k = absurd (f k)
below-four I Left f k = absurd (f k)
below-four I Right f k = absurd (f k)

-- the number of a lawful move is a place in the list
pub lawful-below : (I : Inst) (m : Move) → IsLawfulMove I m → move_number m < length (lawful_moves I)
lawful-below I m h =
    elim (cases_Bool (eqb I.l_side I.w_side)) [
      | inl e ↦ rw e (below-eight m)
      | inr e ↦ rw e (below-four I m (λ q. let z : eqb I.l_side I.w_side ≡ true = eq-eqb I.l_side I.w_side q in cc) h)
    ]

-- ---- the steps of the loop over the moves

-- an image that a variant has already is left out
pub variants-skip : (I : Inst) (xs : List Spot) (i : ℕ) (vs : List (Move × Placed)) (m : Move) (image : List Spot) → IsVariantsBefore I xs i vs → move_number m ≡ i → IsImage I m xs image → Any (λ v. v.1.spots ≡ image) vs → IsVariantsBefore I xs (i + 1) vs
variants-skip I xs i vs m image b number is found =
    record {
      each = b.each;
      below = λ k d p. let z : move_number (get_or vs k d).0 < i = b.below k d p in omega arith;
      in_order = b.in_order;
      distinct = b.distinct;
      complete = λ turn lawful lt.
          elim (cases_order (move_number turn) i) [
            | inl e ↦
                let same : m ≡ turn = same-move m turn (number ∙ sym e) in
                let z : move_number (get_or vs found.0 found.1).0 < i = b.below found.0 found.1 found.2 in
                let y : move_number found.1.0 < i = rw found.3 at z in
                let im : IsImage I turn xs found.1.1.spots = subst (λ l. IsImage I turn xs l) (sym found.4) (subst (λ n. IsImage I n xs image) same is) in
                (found.0, found.1, found.2, found.3, (omega arith, im))
            | inr o ↦ elim o [ inl l ↦ b.complete turn lawful l | inr l ↦ absurd (omega arith) ]
          ];
    }

Any-longer : {T : Type 0} (P : T → Type 0) (xs : List T) (y : T) → Any P xs → Any P (xs ++ y ∷ [])
Any-longer P xs y a =
    (a.0, a.1, omega (arith, length_push xs y, a.2), get_or_append_left xs (y ∷ []) a.1 a.0 a.2 ∙ a.3, a.4)

pub variants-push : (I : Inst) (xs : List Spot) (i : ℕ) (vs : List (Move × Placed)) (v : Move × Placed) → IsVariantsBefore I xs i vs → move_number v.0 ≡ i → IsVariant I xs v → All (λ w. AreDistinct w v) vs → IsVariantsBefore I xs (i + 1) (vs ++ v ∷ [])
variants-push I xs i vs v b number is new =
    record {
      each = All-push (IsVariant I xs) vs v b.each is;
      below = All-push (λ (w : Move × Placed). move_number w.0 < i + 1) vs v (λ k d p. let z : move_number (get_or vs k d).0 < i = b.below k d p in omega arith) (omega arith);
      in_order = all_pairs_push ComesEarlier vs v b.in_order (λ k d p. let z : move_number (get_or vs k d).0 < i = b.below k d p in omega arith);
      distinct = all_pairs_push AreDistinct vs v b.distinct new;
      complete = λ turn lawful lt.
          elim (cases_order (move_number turn) i) [
            | inl e ↦
                let same : v.0 ≡ turn = same-move v.0 turn (number ∙ sym e) in
                Any-push (StandsBy I xs turn) vs v (omega arith, subst (λ n. IsImage I n xs v.1.spots) same is.image)
            | inr o ↦ elim o [ inl l ↦ Any-longer (StandsBy I xs turn) vs v (b.complete turn lawful l) | inr l ↦ absurd (omega arith) ]
          ];
    }

pub variants-all : (I : Inst) (xs : List Spot) (i : ℕ) (vs : List (Move × Placed)) → IsVariantsBefore I xs i vs → length (lawful_moves I) ≤ i → IsVariants I xs vs
variants-all I xs i vs b le =
    record {
      each = b.each;
      in_order = b.in_order;
      distinct = b.distinct;
      complete = λ turn lawful. b.complete turn lawful (omega (arith, lawful-below I turn lawful));
    }

pub All-end : {T : Type 0} (P : T → Type 0) (xs : List T) (i : ℕ) → length xs ≤ i → All P (take i xs) → All P xs
All-end P xs i le h = λ k d p. rw (get_or-take i xs k d (omega arith)) at (h k d (omega (arith, length-take i xs)))

pub variants-step : (I : Inst) (xs : List Spot) (i : ℕ) (vs new : List (Move × Placed)) (v : Move × Placed) → IsVariantsBefore I xs i vs → move_number v.0 ≡ i → IsVariant I xs v → IsAdded vs v new → IsVariantsBefore I xs (i + 1) new
variants-step I xs i vs new v b number is added =
    elim added [
      | inl a ↦ rw a.1 (variants-skip I xs i vs v.0 v.1.spots b number is.image a.0)
      | inr a ↦ rw a.1 (variants-push I xs i vs v b number is a.0)
    ]

square-lawful : (I : Inst) (m : Move) → I.l_side ≡ I.w_side → IsLawfulMove I m
square-lawful I Same e = tt
square-lawful I MirrorX e = tt
square-lawful I MirrorY e = tt
square-lawful I HalfTurn e = tt
square-lawful I Diagonal e = e
square-lawful I Anti e = e
square-lawful I Left e = e
square-lawful I Right e = e

four-lawful : (I : Inst) (i : ℕ) (d : Move) → i < 4 → IsLawfulMove I (get_or four i d)
four-lawful I zero d h = tt
four-lawful I (suc zero) d h = tt
four-lawful I (suc (suc zero)) d h = tt
four-lawful I (suc (suc (suc zero))) d h = tt
four-lawful I (suc (suc (suc (suc i)))) d h = absurd (omega arith)

pub lawful-listed : (I : Inst) (i : ℕ) (d : Move) → i < length (lawful_moves I) → IsLawfulMove I (get_or (lawful_moves I) i d)
lawful-listed I i d h =
    elim (cases_Bool (eqb I.l_side I.w_side)) [
      | inl e ↦ square-lawful I (get_or (lawful_moves I) i d) ((Decides-eqb I.l_side I.w_side).0 e)
      | inr e ↦ rw e (let z : i < 4 = rw e at h in four-lawful I i d z)
    ]
