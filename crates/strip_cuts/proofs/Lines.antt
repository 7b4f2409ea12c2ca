-- Unit lines of a pallet cross cases that are side by side.
use Rattle.std.proofs.Common.{◌≡◌, ℕ, zero, suc, ◌+◌, ◌*◌, ◌≤◌, inl, inr, Bool, true, false, cond, eqb, List, [], ◌∷◌, arith, refl, ap, ◌∙◌}
use Rattle.std.specs.List.{All}
use Rattle.std.proofs.lemmas.Bool.{cases_lt}
use Rattle.std.proofs.lemmas.Bool.Decides.{nat_tests}
use Rattle.std.proofs.Math.Nat.{mul-le-mul_left}
use Rattle.std.proofs.lemmas.List.Elements.{All-head, All-tail}
use Rattle.plan_geometry.specs.declared.spots.Axis.{Axis}
use Rattle.plan_geometry.specs.declared.spots.Axis.TheVariants.{X, Y}
use Rattle.plan_geometry.specs.declared.spots.Spot.{Spot}
use Rattle.plan_geometry.specs.declared.spots.Way.{Way}
use Rattle.plan_geometry.specs.declared.spots.Way.TheVariants.{Lying, Standing}
use Rattle.plan_geometry.specs.declared.instances.Inst.{Inst}
use Rattle.plan_geometry.specs.Layout.{side, extent, start, IsInside, IsLayout}
use Rattle.plan_geometry.specs.Weight.{sum_below, spot_weight, total_weight}
use Rattle.plan_geometry.proofs.Counting.{sum_below-same, sum_below-le, sum_below-add, sum_below-const, within, window, weights, weights-le-total}
use Rattle.partitions.specs.Partitions.{IsPartition}
use Rattle.strip_cuts.specs.Cuts.{IsGreatest, MeetsLines, across, one_if_same, cases_of}

-- the way in which the long side is along an axis, and the one in which the short side is
abbrev pub long_way : Axis → Way
long_way X = Lying
long_way Y = Standing

abbrev pub short_way : Axis → Way
short_way X = Standing
short_way Y = Lying

-- a for the cases with the long side along an axis, b for the others
abbrev pub by_way : Axis → ℕ → ℕ → Way → ℕ
by_way X a b Lying = a
by_way X a b Standing = b
by_way Y a b Lying = b
by_way Y a b Standing = a

-- the cells of the line along an axis that stands at y across it
abbrev pub line : Axis → ℕ → ℕ → ℕ → ℕ
line X y u v = cond (eqb v y) 1 0
line Y y u v = cond (eqb u y) 1 0

-- one cell of e from s on is at y, if they have y
pub one-at : (s e y : ℕ) → sum_below e (λ k. cond (eqb (s + k) y) 1 0) ≡ cond (within s e y) 1 0
one-at s zero y = grind (arith, nat_tests)
one-at s (suc e) y =
    let more : cond (within s e y) 1 0 + cond (eqb (s + e) y) 1 0 ≡ cond (within s (suc e) y) 1 0 = step s e y in
    omega (arith, one-at s e y)
  where
    step : (s e y : ℕ) → cond (within s e y) 1 0 + cond (eqb (s + e) y) 1 0 ≡ cond (within s (suc e) y) 1 0
    step s e y =
        elim (cases_lt y s) [
          | inl before ↦ grind (arith, nat_tests)
          | inr from ↦
              elim (cases_lt y (s + e)) [
                | inl inside ↦ grind (arith, nat_tests)
                | inr past ↦ elim (cases_lt (s + e) y) [ inl behind ↦ grind (arith, nat_tests) | inr at ↦ grind (arith, nat_tests) ]
              ]
        ]

one-below : (n y : ℕ) → sum_below n (λ k. cond (eqb k y) 1 0) ≤ 1
one-below n y =
    let e : sum_below n (λ k. cond (eqb k y) 1 0) ≡ sum_below n (λ k. cond (eqb (0 + k) y) 1 0) =
    sum_below-same n (λ k. cond (eqb k y) 1 0) (λ k. cond (eqb (0 + k) y) 1 0)
    (λ k lt. let z : k ≡ 0 + k = omega arith in ap (λ j. cond (eqb j y) 1 0) z) in
    let f = one-at 0 n y in
    let few : cond (within 0 n y) 1 0 ≤ 1 = at_most (within 0 n y) in
    omega arith
  where
    at_most : (b : Bool) → cond b 1 0 ≤ 1
    at_most true = omega arith
    at_most false = omega arith

sum_below-times : (n c : ℕ) (f : ℕ → ℕ) → sum_below n (λ j. c * f j) ≡ c * sum_below n f
sum_below-times zero c f = omega arith
sum_below-times (suc n) c f = omega (arith, sum_below-times n c f)

times-if : (b : Bool) (n : ℕ) → n * cond b 1 0 ≡ cond b n 0
times-if true n = omega arith
times-if false n = omega arith

-- a line has at most as many cells as the side along it is long
line-total : (axis : Axis) (I : Inst) (y : ℕ) → total_weight (line axis y) I ≤ side axis I
line-total X I y =
    let le : total_weight (line X y) I ≤ sum_below I.l_side (λ i. 1) =
    sum_below-le I.l_side (λ i. sum_below I.w_side (λ j. line X y i j)) (λ i. 1) (λ i lt. one-below I.w_side y) in
    let all : sum_below I.l_side (λ i. 1) ≡ I.l_side * 1 = sum_below-const I.l_side 1 (λ i. 1) (λ i lt. refl) in
    omega arith
line-total Y I y =
    let a : total_weight (line Y y) I ≡ sum_below I.l_side (λ u. I.w_side * cond (eqb u y) 1 0) =
    sum_below-same I.l_side (λ u. sum_below I.w_side (λ v. line Y y u v)) (λ u. I.w_side * cond (eqb u y) 1 0)
    (λ u lt. sum_below-const I.w_side (cond (eqb u y) 1 0) (λ v. line Y y u v) (λ v l. refl)) in
    let b : sum_below I.l_side (λ u. I.w_side * cond (eqb u y) 1 0) ≡ I.w_side * sum_below I.l_side (λ u. cond (eqb u y) 1 0) =
    sum_below-times I.l_side I.w_side (λ u. cond (eqb u y) 1 0) in
    let one : sum_below I.l_side (λ u. cond (eqb u y) 1 0) ≤ 1 = one-below I.l_side y in
    let le : I.w_side * sum_below I.l_side (λ u. cond (eqb u y) 1 0) ≤ I.w_side * 1 = mul-le-mul_left I.w_side one in
    omega arith

-- the cells of the line that a case covers
line-spot :
    (axis : Axis) (I : Inst) (y : ℕ) (s : Spot)
    → spot_weight (line axis y) I s
    ≡ cond (within (start (across axis) s) (extent (across axis) I s.way) y) (extent axis I s.way) 0
line-spot X I y s =
    sum_below-const (extent X I s.way) (cond (within s.y (extent Y I s.way) y) 1 0)
    (λ i. sum_below (extent Y I s.way) (λ j. line X y (s.x + i) (s.y + j))) (λ i lt. one-at s.y (extent Y I s.way) y)
    ∙ times-if (within s.y (extent Y I s.way) y) (extent X I s.way)
line-spot Y I y s =
    sum_below-same (extent X I s.way) (λ i. sum_below (extent Y I s.way) (λ j. line Y y (s.x + i) (s.y + j)))
    (λ i. extent Y I s.way * cond (eqb (s.x + i) y) 1 0)
    (λ i lt. sum_below-const (extent Y I s.way) (cond (eqb (s.x + i) y) 1 0) (λ j. line Y y (s.x + i) (s.y + j)) (λ j l. refl))
    ∙ (sum_below-times (extent X I s.way) (extent Y I s.way) (λ i. cond (eqb (s.x + i) y) 1 0)
    ∙ (ap (λ k. extent Y I s.way * k) (one-at s.x (extent X I s.way) y) ∙ times-if (within s.x (extent X I s.way) y) (extent Y I s.way)))

-- c for each case that the line along the axis at y crosses
abbrev pub crossing : Axis → Inst → ℕ → (Way → ℕ) → List Spot → ℕ
crossing axis I y c [] = 0
crossing axis I y c (s ∷ ss) =
    cond (within (start (across axis) s) (extent (across axis) I s.way) y) (c s.way) 0 + crossing axis I y c ss

line-weights : (axis : Axis) (I : Inst) (y : ℕ) (ss : List Spot) → weights (line axis y) I ss ≡ crossing axis I y (extent axis I) ss
line-weights axis I y [] = refl
line-weights axis I y (s ∷ ss) = omega (arith, line-spot axis I y s, line-weights axis I y ss)

-- the crossed cases of the two ways
crossing-parts :
    (axis : Axis) (I : Inst) (y : ℕ) (c : Way → ℕ) (ss : List Spot)
    → crossing axis I y c ss
    ≡ c (long_way axis) * crossing axis I y (by_way axis 1 0) ss + c (short_way axis) * crossing axis I y (by_way axis 0 1) ss
crossing-parts axis I y c [] = omega arith
crossing-parts axis I y c (s ∷ ss) =
    omega (arith, one_case axis s.way c (within (start (across axis) s) (extent (across axis) I s.way) y), crossing-parts axis I y c ss)
  where
    one_case : (axis : Axis) (w : Way) (c : Way → ℕ) (b : Bool)
        → cond b (c w) 0 ≡ c (long_way axis) * cond b (by_way axis 1 0 w) 0 + c (short_way axis) * cond b (by_way axis 0 1 w) 0
    one_case X Lying c true = omega arith
    one_case X Standing c true = omega arith
    one_case Y Lying c true = omega arith
    one_case Y Standing c true = omega arith
    one_case axis w c false = omega arith

crossing-extents :
    (axis : Axis) (I : Inst) (y : ℕ) (ss : List Spot)
    → crossing axis I y (extent axis I) ss
    ≡ crossing axis I y (by_way axis 1 0) ss * I.long + crossing axis I y (by_way axis 0 1) ss * I.short
crossing-extents X I y ss = omega (arith, crossing-parts X I y (extent X I) ss)
crossing-extents Y I y ss = omega (arith, crossing-parts Y I y (extent Y I) ss)

crossing-value :
    (axis : Axis) (I : Inst) (y a b : ℕ) (ss : List Spot)
    → crossing axis I y (by_way axis a b) ss
    ≡ a * crossing axis I y (by_way axis 1 0) ss + b * crossing axis I y (by_way axis 0 1) ss
crossing-value X I y a b ss = crossing-parts X I y (by_way X a b) ss
crossing-value Y I y a b ss = crossing-parts Y I y (by_way Y a b) ss

-- the cases that a line crosses are a partition of the side along it
pub line-partition :
    (axis : Axis) (I : Inst) (y : ℕ) (ss : List Spot)
    → IsLayout I ss
    → IsPartition axis I (crossing axis I y (by_way axis 1 0) ss) (crossing axis I y (by_way axis 0 1) ss)
line-partition axis I y ss layout =
    omega (arith, weights-le-total (line axis y) I ss layout, line-total axis I y, line-weights axis I y ss, crossing-extents axis I y ss)

-- c for each of the numbers below n that are among the e from s on
crossed : (n s e c : ℕ) → s + e ≤ n → sum_below n (λ y. cond (within s e y) c 0) ≡ e * c
crossed n s e c fits = window n s e (λ y. c) fits ∙ sum_below-const e c (λ y. c) (λ y lt. refl)

inside-along : (axis : Axis) (I : Inst) (s : Spot) → IsInside I s → start axis s + extent axis I s.way ≤ side axis I
inside-along X I s h = h.in_x
inside-along Y I s h = h.in_y

-- over all lines along the axis each case counts as often as its extent across is long
crossing-all :
    (axis : Axis) (I : Inst) (c : Way → ℕ) (ss : List Spot)
    → All (IsInside I) ss
    → sum_below (side (across axis) I) (λ y. crossing axis I y c ss)
    ≡ extent (across axis) I (long_way axis) * c (long_way axis) * cases_of (long_way axis) ss
    + extent (across axis) I (short_way axis) * c (short_way axis) * cases_of (short_way axis) ss
crossing-all axis I c [] h =
    let none : sum_below (side (across axis) I) (λ y. 0) ≡ side (across axis) I * 0 =
    sum_below-const (side (across axis) I) 0 (λ y. 0) (λ y lt. refl) in
    omega arith
crossing-all axis I c (s ∷ ss) h =
    let n = side (across axis) I in
    let f : ℕ → ℕ = λ y. cond (within (start (across axis) s) (extent (across axis) I s.way) y) (c s.way) 0 in
    let both : sum_below n (λ y. f y + crossing axis I y c ss) ≡ sum_below n f + sum_below n (λ y. crossing axis I y c ss) =
    sum_below-add n f (λ y. crossing axis I y c ss) in
    let here : sum_below n f ≡ extent (across axis) I s.way * c s.way =
    crossed n (start (across axis) s) (extent (across axis) I s.way) (c s.way) (inside-along (across axis) I s (All-head (IsInside I) s ss h)) in
    both ∙ (ap (λ k. k + sum_below n (λ y. crossing axis I y c ss)) here
    ∙ (ap (λ k. extent (across axis) I s.way * c s.way + k) (crossing-all axis I c ss (All-tail (IsInside I) s ss h))
    ∙ one_case axis s.way (extent (across axis) I) c ss))
  where
    one_case : (axis : Axis) (w : Way) (ext c : Way → ℕ) (ss : List Spot)
        → ext w * c w
        + (ext (long_way axis) * c (long_way axis) * cases_of (long_way axis) ss + ext (short_way axis) * c (short_way axis) * cases_of (short_way axis) ss)
        ≡ ext (long_way axis) * c (long_way axis) * (one_if_same (long_way axis) w + cases_of (long_way axis) ss)
        + ext (short_way axis) * c (short_way axis) * (one_if_same (short_way axis) w + cases_of (short_way axis) ss)
    one_case X Lying ext c ss = omega arith
    one_case X Standing ext c ss = omega arith
    one_case Y Lying ext c ss = omega arith
    one_case Y Standing ext c ss = omega arith

-- all lines together
lines-all :
    (axis : Axis) (I : Inst) (a b : ℕ) (ss : List Spot)
    → All (IsInside I) ss
    → sum_below (side (across axis) I) (λ y. crossing axis I y (by_way axis a b) ss)
    ≡ a * I.short * cases_of (long_way axis) ss + b * I.long * cases_of (short_way axis) ss
lines-all X I a b ss h = omega (arith, crossing-all X I (by_way X a b) ss h)
lines-all Y I a b ss h = omega (arith, crossing-all Y I (by_way Y a b) ss h)

-- the cases of a layout meet what the lines along an axis demand
pub meets-lines :
    (axis : Axis) (I : Inst) (a b q : ℕ) (ss : List Spot)
    → IsGreatest axis I a b q
    → IsLayout I ss
    → MeetsLines axis I a b q (cases_of (long_way axis) ss) (cases_of (short_way axis) ss)
meets-lines axis I a b q ss greatest layout =
    let n = side (across axis) I in
    let le : sum_below n (λ y. crossing axis I y (by_way axis a b) ss) ≤ sum_below n (λ y. q) =
    sum_below-le n (λ y. crossing axis I y (by_way axis a b) ss) (λ y. q)
    (λ y lt. omega (arith, greatest.bounds (crossing axis I y (by_way axis 1 0) ss) (crossing axis I y (by_way axis 0 1) ss) (line-partition axis I y ss layout), crossing-value axis I y a b ss)) in
    let whole : sum_below n (λ y. q) ≡ n * q = sum_below-const n q (λ y. q) (λ y lt. refl) in
    omega (arith, lines-all axis I a b ss layout.inside)
