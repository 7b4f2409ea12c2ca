-- A part with as many cells as the region is the region itself.
use Rattle.std.proofs.Common.{◌≡◌, ℕ, ◌⊎◌, ◌+◌, ◌-◌, ◌*◌, ◌≤◌, ◌<◌, ap, arith, inl, inr}
use Rattle.std.proofs.lemmas.Bool.{cases_lt}
use Rattle.std.proofs.Math.Nat.{add-mul, mul-le-mul_left, mul-le-mul_right}
use Rattle.block_tree.specs.declared.regions.Region.{Region}
use Rattle.block_tree.specs.Regions.{Within, IsOrdered, region, rectangle, area}
use Rattle.block_tree.proofs.AreaLemmas.{area-within, area-rectangle}

-- an L-region that is no rectangle
pub record IsEll (r : Region) : Type 0 where
  pub low_x : 0 < r.small_x
  pub low_y : 0 < r.small_y
  pub high_x : r.small_x < r.big_x
  pub high_y : r.small_y < r.big_y

pub record Equal (r p : Region) : Type 0 where
  pub big_x : r.big_x ≡ p.big_x
  pub big_y : r.big_y ≡ p.big_y
  pub small_x : r.small_x ≡ p.small_x
  pub small_y : r.small_y ≡ p.small_y

-- a product with a smaller factor
mul-lt : (a b k : ℕ) → a < b → 0 < k → a * k < b * k
mul-lt a b k h p =
    let x : (a + 1) * k ≤ b * k = mul-le-mul_right k (omega arith) in
    let y : (a + 1) * k ≡ a * k + k = omega arith in
    omega arith

-- the area by the other way to cut it
area-other : (bx by' sx sy : ℕ) → sx ≤ bx → sy ≤ by' → area (region bx by' sx sy) ≡ sx * (by' - sy) + bx * sy
area-other bx by' sx sy h k =
    let ex : sx + (bx - sx) ≡ bx = omega arith in
    let ey : sy + (by' - sy) ≡ by' = omega arith in
    rw (ex, ey) at (poly sx (bx - sx) sy (by' - sy)) where
      poly : (s u t v : ℕ) → s * (t + v) + u * t ≡ s * v + (s + u) * t
      poly s u t v = omega arith

less-small_x : (r p : Region) → IsOrdered r → IsEll p → Within r p → r.small_x < p.small_x → area r < area p
less-small_x r p o e w h =
    let hx = e.high_x in
    let hy = e.high_y in
    let k = area-within r (region p.big_x p.big_y r.small_x p.small_y) o (omega arith, omega arith) (w.0, w.1, omega arith, w.3) in
    let a = area-other p.big_x p.big_y r.small_x p.small_y (omega arith) (omega arith) in
    let b = area-other p.big_x p.big_y p.small_x p.small_y (omega arith) (omega arith) in
    let c = mul-lt r.small_x p.small_x (p.big_y - p.small_y) h (omega arith) in
    omega arith

less-small_y : (r p : Region) → IsOrdered r → IsEll p → Within r p → r.small_y < p.small_y → area r < area p
less-small_y r p o e w h =
    let hx = e.high_x in
    let hy = e.high_y in
    let k = area-within r (region p.big_x p.big_y p.small_x r.small_y) o (omega arith, omega arith) (w.0, w.1, w.2, omega arith) in
    let c = mul-lt r.small_y p.small_y (p.big_x - p.small_x) h (omega arith) in
    let d : r.small_y * (p.big_x - p.small_x) ≡ (p.big_x - p.small_x) * r.small_y = omega arith in
    let f : p.small_y * (p.big_x - p.small_x) ≡ (p.big_x - p.small_x) * p.small_y = omega arith in
    omega arith

less-big_x : (r p : Region) → IsOrdered r → IsEll p → Within r p → r.small_x ≡ p.small_x → r.big_x < p.big_x → area r < area p
less-big_x r p o e w s h =
    let hy = e.high_y in
    let k = area-within r (region r.big_x p.big_y p.small_x p.small_y) o (omega arith, omega arith) (omega arith, w.1, w.2, w.3) in
    let c = mul-lt (r.big_x - p.small_x) (p.big_x - p.small_x) p.small_y (omega arith) e.low_y in
    omega arith

less-big_y : (r p : Region) → IsOrdered r → IsEll p → Within r p → r.small_y ≡ p.small_y → r.big_y < p.big_y → area r < area p
less-big_y r p o e w s h =
    let hx = e.high_x in
    let k = area-within r (region p.big_x r.big_y p.small_x p.small_y) o (omega arith, omega arith) (w.0, omega arith, w.2, w.3) in
    let c = mul-lt r.big_y p.big_y p.small_x h e.low_x in
    let d : r.big_y * p.small_x ≡ p.small_x * r.big_y = omega arith in
    let f : p.big_y * p.small_x ≡ p.small_x * p.big_y = omega arith in
    omega arith

-- a region within an L-region that has no fewer cells has the same four numbers
pub same-area : (r p : Region) → IsOrdered r → IsEll p → Within r p → area p ≤ area r → Equal r p
same-area r p o e w h =
    elim (cases_lt r.small_x p.small_x) [
      | inl a ↦ absurd (omega (arith, less-small_x r p o e w a))
      | inr a ↦
          elim (cases_lt r.small_y p.small_y) [
            | inl b ↦ absurd (omega (arith, less-small_y r p o e w b))
            | inr b ↦
                elim (cases_lt r.big_x p.big_x) [
                  | inl c ↦ absurd (omega (arith, less-big_x r p o e w (omega arith) c))
                  | inr c ↦
                      elim (cases_lt r.big_y p.big_y) [
                        | inl d ↦ absurd (omega (arith, less-big_y r p o e w (omega arith) d))
                        | inr d ↦
                            record { big_x = omega arith; big_y = omega arith; small_x = omega arith; small_y = omega arith }
                      ]
                ]
          ]
    ]

-- the mirrored part of K3 and of K4 has fewer cells
pub k3-second : (r : Region) (d h : ℕ) → IsEll r → d ≤ r.big_x → h ≤ r.small_y → area (region r.big_x r.small_y (r.big_x - d) h) < area r
k3-second r d h e a b =
    let hx = e.high_x in
    let hy = e.high_y in
    let k = area-within (region r.big_x r.small_y (r.big_x - d) h) (rectangle r.big_x r.small_y) (omega arith, b) (omega arith, omega arith) (omega arith, omega arith, omega arith, b) in
    let w = area-rectangle r.big_x r.small_y in
    let s : r.small_x + (r.big_x - r.small_x) ≡ r.big_x = omega arith in
    let m = rw s at (add-mul r.small_x (r.big_x - r.small_x) r.small_y) in
    let c = mul-lt r.small_y r.big_y r.small_x hy e.low_x in
    let f1 : r.small_y * r.small_x ≡ r.small_x * r.small_y = omega arith in
    let f2 : r.big_y * r.small_x ≡ r.small_x * r.big_y = omega arith in
    omega arith

pub k4-second : (r : Region) (c t : ℕ) → IsEll r → c ≤ r.small_x → t ≤ r.big_y → area (region r.small_x r.big_y c (r.big_y - t)) < area r
k4-second r c t e a b =
    let hx = e.high_x in
    let k = area-within (region r.small_x r.big_y c (r.big_y - t)) (rectangle r.small_x r.big_y) (a, omega arith) (omega arith, omega arith) (omega arith, omega arith, a, omega arith) in
    let w = area-rectangle r.small_x r.big_y in
    let m = mul-lt 0 (r.big_x - r.small_x) r.small_y (omega arith) e.low_y in
    omega arith

-- K1: the first part of a rectangle, where it has as many cells
pub k1-first : (a b x1 x2 y1 : ℕ) → 0 < a → 0 < b → x1 ≤ x2 → x2 ≤ a → y1 ≤ b → a * b ≤ area (region x2 b x1 y1)
    → (x2 ≡ a) × ((x1 ≡ a) ⊎ (y1 ≡ b))
k1-first a b x1 x2 y1 pa pb h1 h2 h3 h =
    let s : x1 + (x2 - x1) ≡ x2 = omega arith in
    let m : x2 * b ≡ x1 * b + (x2 - x1) * b = rw s at (add-mul x1 (x2 - x1) b) in
    let n : (x2 - x1) * y1 ≤ (x2 - x1) * b = mul-le-mul_left (x2 - x1) h3 in
    let e : x2 ≡ a = elim (cases_lt x2 a) [ inl w ↦ absurd (omega (arith, mul-lt x2 a b w pb)) | inr w ↦ omega arith ] in
    let t : x2 * b ≡ a * b = ap (λ z. z * b) e in (
      e,
      elim (cases_lt y1 b) [
        | inr w ↦ inr (omega arith)
        | inl w ↦ elim (cases_lt x1 x2) [
          | inr v ↦ inl (omega arith)
          | inl v ↦ absurd (let c = mul-lt y1 b (x2 - x1) w (omega arith) in
              let f1 : y1 * (x2 - x1) ≡ (x2 - x1) * y1 = omega arith in
              let f2 : b * (x2 - x1) ≡ (x2 - x1) * b = omega arith in omega arith)
        ]
      ],
    )
