-- What holds of each number of a block.
use Rattle.std.proofs.Common.{◌≡◌, ℕ, ◌+◌, ◌-◌, ◌*◌, ◌/◌, ◌≤◌, ◌<◌, max, ap, sym, ◌∙◌, subst, arith, inl, inr}
use Rattle.std.proofs.lemmas.Bool.{cases_lt}
use Rattle.std.proofs.Math.Nat.{div-mul-le_self, zero-div, mul-le-mul, le_trans}
use Rattle.plan_geometry.specs.declared.spots.Way.{Way}
use Rattle.plan_geometry.specs.declared.spots.Way.TheVariants.{Lying, Standing}
use Rattle.plan_geometry.specs.declared.instances.Inst.{Inst}
use Rattle.plan_geometry.specs.Layout.{x_extent, y_extent}
use Rattle.block_tree.specs.Trees.{grid_cases, uniform}
use Rattle.block_tables.specs.declared.patterns.Pattern.{Pattern}
use Rattle.block_tables.specs.Numbers.{IsCentreNumber, counted, uncounted, RoundsTo, IsSum, IsRasterOf, AreCuts, IsNumber, by_grid, by_cuts, IsPartNumber, rounded}
use Rattle.block_tables.specs.Tables.{centre, parts_sum}

-- ---- rounding

pub down-le : (i : Inst) (s d : ℕ) → RoundsTo i s d → d ≤ s
down-le i s d h = h.normal.within

pub down-same : (i : Inst) (s d : ℕ) → IsSum i s → RoundsTo i s d → d ≡ s
down-same i s d u h =
    let a : s ≤ d = h.greatest s u in
    let b : d ≤ s = h.normal.within in
    omega arith

pub raster-le : (i : Inst) (s p : ℕ) → IsRasterOf i s p → p ≤ s
raster-le i s p h = let a : p ≤ s - h.left = down-le i (s - h.left) p h.down in omega arith

-- ---- a block without a cell

grid-none_x : (i : Inst) (way : Way) (b : ℕ) → grid_cases i way 0 b ≡ 0
grid-none_x i way b = rw (zero-div (x_extent i way)) (omega arith)

grid-none_y : (i : Inst) (way : Way) (a : ℕ) → grid_cases i way a 0 ≡ 0
grid-none_y i way a = rw (zero-div (y_extent i way)) (omega arith)

uniform-none_x : (i : Inst) (b : ℕ) → uniform i 0 b ≡ 0
uniform-none_x i b = omega (arith, grid-none_x i Lying b, grid-none_x i Standing b)

uniform-none_y : (i : Inst) (a : ℕ) → uniform i a 0 ≡ 0
uniform-none_y i a = omega (arith, grid-none_y i Lying a, grid-none_y i Standing a)

mutual
  pub none_x : (i : Inst) (pat : Pattern) {a b n : ℕ} → IsNumber i pat a b n → a ≡ 0 → n ≡ 0
  none_x i pat {a = a} {b = b} (by_grid e) h = e ∙ (ap (λ c. uniform i c b) h ∙ uniform-none_x i b)
  none_x i pat (by_cuts c p1 p2 p3 p4 p5 e) h =
      let q1 = raster-le i _ _ c.x1_raster in
      let q2 = raster-le i _ _ c.x2_raster in
      omega (
        arith,
        part-none_x i pat p1 (omega arith),
        part-none_x i pat p2 (omega arith),
        part-none_x i pat p3 (omega arith),
        part-none_x i pat p4 (omega arith),
        centre-none_x i pat p5 (omega arith),
      )

  pub centre-none_x : (i : Inst) (pat : Pattern) {c d n : ℕ} → IsCentreNumber i pat c d n → c ≡ 0 → n ≡ 0
  centre-none_x i pat (counted k p) h = part-none_x i pat p h
  centre-none_x i pat (uncounted k e) h = e

  part-none_x : (i : Inst) (pat : Pattern) {c d n : ℕ} → IsPartNumber i pat c d n → c ≡ 0 → n ≡ 0
  part-none_x i pat (rounded u v f) h = none_x i pat f (let w = down-le i _ _ u in omega arith)

mutual
  pub none_y : (i : Inst) (pat : Pattern) {a b n : ℕ} → IsNumber i pat a b n → b ≡ 0 → n ≡ 0
  none_y i pat {a = a} {b = b} (by_grid e) h = e ∙ (ap (λ c. uniform i a c) h ∙ uniform-none_y i a)
  none_y i pat (by_cuts c p1 p2 p3 p4 p5 e) h =
      let q1 = raster-le i _ _ c.y1_raster in
      let q2 = raster-le i _ _ c.y2_raster in
      omega (
        arith,
        part-none_y i pat p1 (omega arith),
        part-none_y i pat p2 (omega arith),
        part-none_y i pat p3 (omega arith),
        part-none_y i pat p4 (omega arith),
        centre-none_y i pat p5 (omega arith),
      )

  pub centre-none_y : (i : Inst) (pat : Pattern) {c d n : ℕ} → IsCentreNumber i pat c d n → d ≡ 0 → n ≡ 0
  centre-none_y i pat (counted k p) h = part-none_y i pat p h
  centre-none_y i pat (uncounted k e) h = e

  part-none_y : (i : Inst) (pat : Pattern) {c d n : ℕ} → IsPartNumber i pat c d n → d ≡ 0 → n ≡ 0
  part-none_y i pat (rounded u v f) h = none_y i pat f (let w = down-le i _ _ v in omega arith)

-- ---- no number is above what the cells allow

grid-area : (i : Inst) (way : Way) (a b : ℕ) → grid_cases i way a b * (x_extent i way * y_extent i way) ≤ a * b
grid-area i way a b =
    let x = div-mul-le_self a (x_extent i way) in
    let y = div-mul-le_self b (y_extent i way) in
    let k : ((a / x_extent i way) * x_extent i way) * ((b / y_extent i way) * y_extent i way) ≤ a * b = mul-le-mul x y in
    omega (arith, regroup (a / x_extent i way) (x_extent i way) (b / y_extent i way) (y_extent i way), k) where
      regroup : (p q r s : ℕ) → (p * r) * (q * s) ≡ (p * q) * (r * s)
      regroup p q r s = omega arith

case_area : Inst → ℕ
case_area i = i.long * i.short

uniform-area : (i : Inst) (a b : ℕ) → uniform i a b * (i.long * i.short) ≤ a * b
uniform-area i a b =
    max-mul (grid_cases i Lying a b) (grid_cases i Standing a b) (i.long * i.short) (a * b) (grid-area i Lying a b)
    (let y = grid-area i Standing a b in let c : i.short * i.long ≡ i.long * i.short = omega arith in rw c at y) where
      max-mul : (p q k t : ℕ) → p * k ≤ t → q * k ≤ t → max p q * k ≤ t
      max-mul p q k t h g = elim (cases_lt p q) [ inl w ↦ (let e : max p q ≡ q = omega arith in rw e g) | inr w ↦ (let e : max p q ≡ p = omega arith in rw e h) ]

five-cells : (a b x1 x2 y1 y2 : ℕ) → x1 ≤ x2 → x2 ≤ a → y1 ≤ y2 → y2 ≤ b
    → x2 * y1 + (a - x2) * y2 + x1 * (b - y1) + (a - x1) * (b - y2) + (x2 - x1) * (y2 - y1) ≡ a * b
five-cells a b x1 x2 y1 y2 h1 h2 h3 h4 =
    let ex : x1 + (x2 - x1) ≡ x2 = omega arith in
    let ey : y1 + (y2 - y1) ≡ y2 = omega arith in
    let ea : x2 + (a - x2) ≡ a = omega arith in
    let eb : y2 + (b - y2) ≡ b = omega arith in
    let fa : (x2 - x1) + (a - x2) ≡ a - x1 = omega arith in
    let fb : (y2 - y1) + (b - y2) ≡ b - y1 = omega arith in
    rw (fa, fb, ex, ey, ea, eb) at (five-poly x1 (x2 - x1) y1 (y2 - y1) (a - x2) (b - y2)) where
      five-poly : (x1 x y1 y u v : ℕ) →
          (x1 + x) * y1 + u * (y1 + y) + x1 * (y + v) + (x + u) * v + x * y ≡ (x1 + x + u) * (y1 + y + v)
      five-poly x1 x y1 y u v = omega arith

spread : (n1 n2 n3 n4 n5 k : ℕ) → (n1 + n2 + n3 + n4 + n5) * k ≡ n1 * k + n2 * k + n3 * k + n4 * k + n5 * k
spread n1 n2 n3 n4 n5 k = omega arith

mutual
  pub area : (i : Inst) (pat : Pattern) {a b n : ℕ} → IsNumber i pat a b n → n * (i.long * i.short) ≤ a * b
  area i pat {a = a} {b = b} (by_grid e) = rw e (uniform-area i a b)
  area i pat {a = a} {b = b} (by_cuts {x1 = x1} {x2 = x2} {y1 = y1} {y2 = y2} {n1 = n1} {n2 = n2} {n3 = n3} {n4 = n4} {n5 = n5} c p1 p2 p3 p4 p5 e) =
      let h1 = raster-le i a x2 c.x2_raster in
      let h2 = raster-le i b y2 c.y2_raster in
      rw e (omega (
        arith,
        spread n1 n2 n3 n4 n5 (i.long * i.short),
        part-area i pat p1,
        part-area i pat p2,
        part-area i pat p3,
        part-area i pat p4,
        centre-area i pat p5,
        five-cells a b x1 x2 y1 y2 c.x_order h1 c.y_order h2,
      ))

  centre-area : (i : Inst) (pat : Pattern) {c d n : ℕ} → IsCentreNumber i pat c d n → n * (i.long * i.short) ≤ c * d
  centre-area i pat (counted k p) = part-area i pat p
  centre-area i pat (uncounted k e) = rw e (omega arith)

  part-area : (i : Inst) (pat : Pattern) {c d n : ℕ} → IsPartNumber i pat c d n → n * (i.long * i.short) ≤ c * d
  part-area i pat {c = c} {d = d} (rounded {a = a} {b = b} u v f) = le_trans (area i pat f) (mul-le-mul (down-le i c a u) (down-le i d b v))

centre-le : (i : Inst) (pat : Pattern) (f : ℕ → ℕ → ℕ) (c d n : ℕ) → IsCentreNumber i pat c d n → (IsPartNumber i pat c d n → n ≤ f c d) → n ≤ centre pat f c d
centre-le i pat f c d n (counted e p) r = rw e (r p)
centre-le i pat f c d n (uncounted e z) r = omega (arith, z)

-- ---- the greatest number of a block, from those of its parts

module _ (i : Inst) (pat : Pattern) (a b m : ℕ) (f : ℕ → ℕ → ℕ) (sum_x : IsSum i a) (sum_y : IsSum i b) (grid : uniform i a b ≤ m)
    (parts : (c d n : ℕ) → c ≤ a → d ≤ b → c + d < a + b → IsPartNumber i pat c d n → n ≤ f c d)
    (cuts : (x1 x2 y1 y2 : ℕ) → AreCuts i a b x1 x2 y1 y2 → parts_sum pat f a b x1 x2 y1 y2 ≤ m) where
  -- the step, with what the recursion gives for a part that is the block itself
  step : (x1 x2 y1 y2 n1 n2 n3 n4 n5 : ℕ) → AreCuts i a b x1 x2 y1 y2
      → IsPartNumber i pat x2 y1 n1 → IsPartNumber i pat (a - x2) y2 n2 → IsPartNumber i pat x1 (b - y1) n3
      → IsPartNumber i pat (a - x1) (b - y2) n4 → IsCentreNumber i pat (x2 - x1) (y2 - y1) n5
      → (x2 ≡ a → y1 ≡ b → n1 ≤ m) → (a - x2 ≡ a → y2 ≡ b → n2 ≤ m) → (x1 ≡ a → b - y1 ≡ b → n3 ≤ m)
      → (a - x1 ≡ a → b - y2 ≡ b → n4 ≤ m) → (x2 - x1 ≡ a → y2 - y1 ≡ b → n5 ≤ m)
      → n1 + n2 + n3 + n4 + n5 ≤ m
  step x1 x2 y1 y2 n1 n2 n3 n4 n5 c p1 p2 p3 p4 p5 r1 r2 r3 r4 r5 =
      let l1 = raster-le i a x1 c.x1_raster in
      let l2 = raster-le i a x2 c.x2_raster in
      let l3 = raster-le i b y1 c.y1_raster in
      let l4 = raster-le i b y2 c.y2_raster in
      let lx = c.x_order in
      let ly = c.y_order in
      elim (cases_lt (x2 + y1) (a + b)) [
        | inr w ↦
            omega (arith, r1 (omega arith) (omega arith), part-none_x i pat p2 (omega arith), part-none_y i pat p3 (omega arith), part-none_y i pat p4 (omega arith), centre-none_y i pat p5 (omega arith))
        | inl w1 ↦ elim (cases_lt ((a - x2) + y2) (a + b)) [
          | inr w ↦
              omega (arith, r2 (omega arith) (omega arith), part-none_x i pat p1 (omega arith), part-none_x i pat p3 (omega arith), part-none_y i pat p4 (omega arith), centre-none_x i pat p5 (omega arith))
          | inl w2 ↦ elim (cases_lt (x1 + (b - y1)) (a + b)) [
            | inr w ↦
                omega (arith, r3 (omega arith) (omega arith), part-none_y i pat p1 (omega arith), part-none_x i pat p2 (omega arith), part-none_x i pat p4 (omega arith), centre-none_x i pat p5 (omega arith))
            | inl w3 ↦ elim (cases_lt ((a - x1) + (b - y2)) (a + b)) [
              | inr w ↦
                  omega (arith, r4 (omega arith) (omega arith), part-none_y i pat p1 (omega arith), part-none_y i pat p2 (omega arith), part-none_x i pat p3 (omega arith), centre-none_y i pat p5 (omega arith))
              | inl w4 ↦ elim (cases_lt ((x2 - x1) + (y2 - y1)) (a + b)) [
                | inr w ↦
                    omega (arith, r5 (omega arith) (omega arith), part-none_y i pat p1 (omega arith), part-none_x i pat p2 (omega arith), part-none_x i pat p3 (omega arith), part-none_y i pat p4 (omega arith))
                | inl w5 ↦
                    omega (
                      arith,
                      cuts x1 x2 y1 y2 c,
                      parts x2 y1 n1 (omega arith) (omega arith) w1 p1,
                      parts (a - x2) y2 n2 (omega arith) (omega arith) w2 p2,
                      parts x1 (b - y1) n3 (omega arith) (omega arith) w3 p3,
                      parts (a - x1) (b - y2) n4 (omega arith) (omega arith) w4 p4,
                      centre-le i pat f (x2 - x1) (y2 - y1) n5 p5 (parts (x2 - x1) (y2 - y1) n5 (omega arith) (omega arith) w5),
                    )
              ]
            ]
          ]
        ]
      ]

  mutual
    pub bounded : {a' b' n : ℕ} → IsNumber i pat a' b' n → a' ≡ a → b' ≡ b → n ≤ m
    bounded {a' = a'} {b' = b'} (by_grid e) h k = rw (e, h, k) grid
    bounded {a' = a'} {b' = b'} (by_cuts {x1 = x1} {x2 = x2} {y1 = y1} {y2 = y2} {n1 = n1} {n2 = n2} {n3 = n3} {n4 = n4} {n5 = n5} c p1 p2 p3 p4 p5 e) h k =
        let C : ℕ → ℕ → Type 0 = λ s t. AreCuts i s t x1 x2 y1 y2 in
        let c1 : C a b' = subst (λ s. C s b') h c in
        let c2 : C a b = subst (λ t. C a t) k c1 in
        let q2 : IsPartNumber i pat (a - x2) y2 n2 = subst (λ s. IsPartNumber i pat (s - x2) y2 n2) h p2 in
        let q3 : IsPartNumber i pat x1 (b - y1) n3 = subst (λ t. IsPartNumber i pat x1 (t - y1) n3) k p3 in
        let q41 : IsPartNumber i pat (a - x1) (b' - y2) n4 = subst (λ s. IsPartNumber i pat (s - x1) (b' - y2) n4) h p4 in
        let q4 : IsPartNumber i pat (a - x1) (b - y2) n4 = subst (λ t. IsPartNumber i pat (a - x1) (t - y2) n4) k q41 in
        rw e (step x1 x2 y1 y2 n1 n2 n3 n4 n5 c2 p1 q2 q3 q4 p5
        (λ u v. bounded_part p1 u v) (λ u v. bounded_part p2 (omega arith) v) (λ u v. bounded_part p3 u (omega arith))
        (λ u v. bounded_part p4 (omega arith) (omega arith)) (λ u v. bounded_centre p5 u v))

    bounded_centre : {c d n : ℕ} → IsCentreNumber i pat c d n → c ≡ a → d ≡ b → n ≤ m
    bounded_centre (counted e p) h k = bounded_part p h k
    bounded_centre (uncounted e z) h k = omega (arith, z)

    bounded_part : {c d n : ℕ} → IsPartNumber i pat c d n → c ≡ a → d ≡ b → n ≤ m
    bounded_part {c = c} {d = d} (rounded u v f) h k =
        bounded f (down-same i c _ (subst (λ s. IsSum i s) (sym h) sum_x) u ∙ h) (down-same i d _ (subst (λ t. IsSum i t) (sym k) sum_y) v ∙ k)
