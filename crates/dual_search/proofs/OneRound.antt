-- A round has one course.
use Rattle.std.proofs.Common.{◌≡◌, ℕ, ◌+◌, ◌*◌, ◌/◌, ◌%◌, ◌<◌, ◌≤◌, ◌⊎◌, inl, inr, List, length, get_or, set, arith, subst, sym, ap, ◌∙◌, refl}
use Rattle.std.proofs.lemmas.Bool.{cases_lt}
use Rattle.std.proofs.lemmas.List.{ext_get_or}
use Rattle.std.proofs.lemmas.Nat.{div-add-mod', mod_below}
use Rattle.plan_geometry.specs.declared.spots.Spot.{Spot}
use Rattle.plan_geometry.specs.declared.spots.Way.{Way}
use Rattle.plan_geometry.specs.declared.spots.Way.TheVariants.{Lying, Standing}
use Rattle.plan_geometry.specs.declared.instances.Inst.{Inst}
use Rattle.plan_geometry.specs.Layout.{x_extent, y_extent, StandsBefore, Covers}
use Rattle.weightings.specs.Table.{cell_in}
use Rattle.dual_search.specs.Raising.{Raises, IsFirstGreatestPlace}
use Rattle.dual_search.specs.Positions.{ComesBefore, IsFirstLightest}
use Rattle.dual_search.specs.Rounds.{Stage, weights_at, IsRound}
use Rattle.dual_search.proofs.Cells.{cases_block}

pub stage-same : (s t : Stage) → s.covers ≡ t.covers → s.weights ≡ t.weights → s ≡ t
stage-same s t e f =
    let make : List ℕ → List ℕ → Stage = λ c w. record { covers = c; weights = w } in
    let one : make s.covers s.weights ≡ make t.covers s.weights = ap (λ c. make c s.weights) e in
    one ∙ ap (λ w. make t.covers w) f

spot-same : (s t : Spot) → s.x ≡ t.x → s.y ≡ t.y → s.way ≡ t.way → s ≡ t
spot-same s t e f g =
    let make : ℕ → ℕ → Way → Spot = λ x y w. record { x = x; y = y; way = w } in
    let one : make s.x s.y s.way ≡ make t.x s.y s.way = ap (λ x. make x s.y s.way) e in
    let two : make t.x s.y s.way ≡ make t.x t.y s.way = ap (λ y. make t.x y s.way) f in
    one ∙ (two ∙ ap (λ w. make t.x t.y w) g)

-- of two positions one comes before the other, or they are one
by_ways : (s t : Spot) → (s.way ≡ t.way) ⊎ (ComesBefore s t ⊎ ComesBefore t s)
by_ways s t = go s.way t.way refl refl
  where
    go : (v w : Way) → s.way ≡ v → t.way ≡ w → (s.way ≡ t.way) ⊎ (ComesBefore s t ⊎ ComesBefore t s)
    go Lying Lying e f = inl (e ∙ sym f)
    go Standing Standing e f = inl (e ∙ sym f)
    go Lying Standing e f = inr (inl (inl (e, f)))
    go Standing Lying e f = inr (inr (inl (f, e)))

by_places : (s t : Spot) → s.way ≡ t.way → (s ≡ t) ⊎ (ComesBefore s t ⊎ ComesBefore t s)
by_places s t e =
    elim (cases_lt s.y t.y) [
      | inl below ↦ inr (inl (inr (e, inl below)))
      | inr from ↦ elim (cases_lt t.y s.y) [
        | inl above ↦ inr (inr (inr (sym e, inl above)))
        | inr to ↦
            let row : s.y ≡ t.y = omega (arith, from, to) in
            elim (cases_lt s.x t.x) [
              | inl left ↦ inr (inl (inr (e, inr (row, left))))
              | inr right ↦ elim (cases_lt t.x s.x) [
                | inl left ↦ inr (inr (inr (sym e, inr (sym row, left))))
                | inr same ↦ inl (spot-same s t (omega (arith, right, same)) row e)
              ]
            ]
      ]
    ]

one_lightest : (I : Inst) (g : ℕ → ℕ → ℕ) (s t : Spot) → IsFirstLightest I g s → IsFirstLightest I g t → s ≡ t
one_lightest I g s t a b =
    elim (by_ways s t) [
      | inl e ↦ elim (by_places s t e) [ inl same ↦ same | inr p ↦ absurd (apart p) ]
      | inr p ↦ absurd (apart p)
    ]
  where
    apart : ComesBefore s t ⊎ ComesBefore t s → ⊥
    apart p = elim p [
      | inl before ↦ omega (arith, b.first s a.inside a.lawful before, a.least t b.inside b.lawful)
      | inr before ↦ omega (arith, a.first t b.inside b.lawful before, b.least s a.inside a.lawful)
    ]

one_place : (xs : List ℕ) (m n : ℕ) → IsFirstGreatestPlace xs m → IsFirstGreatestPlace xs n → m ≡ n
one_place xs m n a b =
    elim (cases_lt m n) [
      | inl less ↦ absurd (omega (arith, b.first m less, a.greatest n b.within))
      | inr from ↦ elim (cases_lt n m) [
        | inl more ↦ absurd (omega (arith, a.first n more, b.greatest m a.within))
        | inr to ↦ omega (arith, from, to)
      ]
    ]

one_raise :
    (I : Inst) (s : Spot) (old xs ys : List ℕ)
    → Raises I.l_side (Covers I s) old xs
    → Raises I.l_side (Covers I s) old ys
    → xs ≡ ys
one_raise I s old xs ys a b =
    ext_get_or 0 xs ys (a.count ∙ sym b.count)
    (λ i lt.
    let at : i / I.l_side * I.l_side + i % I.l_side ≡ i = div-add-mod' i I.l_side in
    let below : i % I.l_side < I.l_side = mod_below i I.l_side (omega (arith, I.sides.l_min)) in
    subst (λ k. get_or xs k 0 ≡ get_or ys k 0) at (same (i % I.l_side) (i / I.l_side) below))
  where
    same : (x y : ℕ) → x < I.l_side → cell_in I.l_side xs x y ≡ cell_in I.l_side ys x y
    same x y lt = elim (cases_block s.x s.y (x_extent I s.way) (y_extent I s.way) x y) [
      | inl within ↦ omega (arith, a.more x y lt within, b.more x y lt within)
      | inr out ↦ omega (arith, a.same x y lt out, b.same x y lt out)
    ]

pub one_round : (I : Inst) (old s t : Stage) → IsRound I old s → IsRound I old t → s ≡ t
one_round I old s t a b =
    let spot : a.spot ≡ b.spot = one_lightest I (weights_at I old) a.spot b.spot a.lightest b.lightest in
    let covers : s.covers ≡ t.covers = one_raise I b.spot old.covers s.covers t.covers (subst (λ u. Raises I.l_side (Covers I u) old.covers s.covers) spot a.covered) b.covered in
    let cell : a.cell ≡ b.cell = one_place t.covers a.cell b.cell (subst (λ xs. IsFirstGreatestPlace xs a.cell) covers a.most_covered) b.most_covered in
    let weights : s.weights ≡ t.weights = a.raised ∙ (ap (λ n. set old.weights n (get_or old.weights n 0 + 1)) cell ∙ sym b.raised) in
    stage-same s t covers weights
