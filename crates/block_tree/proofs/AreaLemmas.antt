-- A lawful tree holds no more cases than its region has cells.
use Rattle.std.proofs.Common.{◌≡◌, ℕ, Bool, true, false, cond, ◌⊎◌, ◌+◌, ◌-◌, ◌*◌, ◌≤◌, ◌==◌, ◌||◌, List, [], ◌∷◌, refl, ap, sym, ◌∙◌, arith, inl, inr}
use Rattle.std.proofs.lemmas.Nat.{mul-le}
use Rattle.std.proofs.Math.Nat.{div-le_self, add-mul, mul-le-mul_left, mul-le-mul_right, le_refl, sub_self}
use Rattle.std.proofs.lemmas.Bool.{eqb-true}
use Rattle.plan_geometry.specs.declared.spots.Way.{Way}
use Rattle.plan_geometry.specs.declared.instances.Inst.{Inst}
use Rattle.plan_geometry.specs.Layout.{x_extent, y_extent}
use Rattle.block_tree.specs.declared.regions.Region.{Region}
use Rattle.block_tree.specs.declared.regions.Cut.{Cut}
use Rattle.block_tree.specs.declared.regions.Cut.TheVariants.{K1, K2, K3, K4}
use Rattle.block_tree.specs.declared.nodes.Block.{Block, Empty, Grid, Five', Ell', Row_of-Node, end_of-Node, more_of-Node}
use Rattle.block_tree.specs.declared.parts.Part.{Part}
use Rattle.block_tree.specs.Regions.{IsOrdered, is_rectangle, side_x, side_y, region, rectangle, Within, area}
use Rattle.block_tree.specs.Parts.{five_parts, IsCut, ell_parts}
use Rattle.block_tree.specs.Trees.{grid_cases, held_count, held_count_row, IsLawful, AreLawfulRow}

-- how the rules for the sides read
pub data Rectangular (r : Region) : Type 0 where
  by_wide : side_x r ≡ r.big_x → side_y r ≡ r.big_y → r.small_x ≡ r.big_x → area r ≡ r.big_x * r.big_y → Rectangular r
  by_tall : side_x r ≡ r.big_x → side_y r ≡ r.big_y → r.small_y ≡ r.big_y → area r ≡ r.big_x * r.big_y → Rectangular r
  by_low : side_x r ≡ r.big_x → side_y r ≡ r.small_y → r.small_x ≡ 0 → Rectangular r
  by_left : side_x r ≡ r.small_x → side_y r ≡ r.big_y → r.small_y ≡ 0 → Rectangular r

bool_cases : (b : Bool) → (b ≡ true) ⊎ (b ≡ false)
bool_cases true = inl refl
bool_cases false = inr refl

pub rectangular : (r : Region) → IsOrdered r → is_rectangle r ≡ true → Rectangular r
rectangular r o h =
    elim (bool_cases (r.small_x == r.big_x)) [
      | inl a ↦ let e : r.small_x ≡ r.big_x = eqb-true _ _ a in
          by_wide (rw a refl) (rw a refl) e (rw (e, sub_self r.big_x) (omega arith))
      | inr a ↦ elim (bool_cases (r.small_y == r.big_y)) [
        | inl b ↦ let e : r.small_y ≡ r.big_y = eqb-true _ _ b in
            let s : r.small_x + (r.big_x - r.small_x) ≡ r.big_x = omega arith in
            by_tall (rw (a, b) refl) (rw (a, b) refl) e (rw e (sym (add-mul r.small_x (r.big_x - r.small_x) r.big_y) ∙ ap (λ n. n * r.big_y) s))
        | inr b ↦ elim (bool_cases (r.small_x == 0)) [
          | inl c ↦ by_low (rw (a, b, c) refl) (rw (a, b, c) refl) (eqb-true _ _ c)
          | inr c ↦ by_left (rw (a, b, c) refl) (rw (a, b, c) refl) (eqb-true _ _ (rw (a, b, c) at h))
        ]
      ]
    ]

grid-le : (i : Inst) → (way : Way) (a b : ℕ) → grid_cases i way a b ≤ a * b
grid-le i way a b = mul-le _ _ _ _ (div-le_self a (x_extent i way)) (div-le_self b (y_extent i way))

-- the area in two pieces, with the differences named
area-le : (sx sy u v px py pu pv : ℕ) → sx ≤ px → sy ≤ py → sx + u ≤ px + pu → sy + v ≤ py + pv
    → sx * (sy + v) + u * sy ≤ px * (py + pv) + pu * py
area-le sx sy u v px py pu pv h1 h2 h3 h4 =
    let d : ℕ = px - sx in
    let a : sx * (sy + v) ≤ sx * (py + pv) = mul-le-mul_left sx h4 in
    let b : u * sy ≤ u * py = mul-le-mul_left u h2 in
    let c : u * py ≤ (d + pu) * py = mul-le-mul_right py (omega arith) in
    let e : d * py ≤ d * (py + pv) = mul-le-mul_left d (omega arith) in
    let f : (sx + d) * (py + pv) ≡ sx * (py + pv) + d * (py + pv) = add-mul sx d (py + pv) in
    let g : (d + pu) * py ≡ d * py + pu * py = add-mul d pu py in
    let k : sx + d ≡ px = omega arith in
    let f' : px * (py + pv) ≡ sx * (py + pv) + d * (py + pv) = rw k at f in
    omega arith

pub area-within : (r p : Region) → IsOrdered r → IsOrdered p → Within r p → area r ≤ area p
area-within r p o q w =
    let e1 : r.small_y + (r.big_y - r.small_y) ≡ r.big_y = omega arith in
    let e2 : p.small_y + (p.big_y - p.small_y) ≡ p.big_y = omega arith in
    rw (e1, e2) at (area-le r.small_x r.small_y (r.big_x - r.small_x) (r.big_y - r.small_y) p.small_x p.small_y (p.big_x - p.small_x) (p.big_y - p.small_y)
    w.2 w.3 (omega arith) (omega arith))

five-sum : (x1 x y1 y u v : ℕ) →
    (x1 + x) * y1 + (u * (y1 + y) + (x1 * (y + v) + ((x + u) * v + x * y))) ≡ (x1 + x + u) * (y1 + y + v)
five-sum x1 x y1 y u v = omega arith

pub area-rectangle : (a b : ℕ) → area (rectangle a b) ≡ a * b
area-rectangle a b = rw (sub_self a) (omega arith)

-- the cells of all parts
abbrev pub areas : List Part → ℕ
areas [] = 0
areas (p ∷ ps) = area p.region + areas ps

areas-five : (a b x1 x2 y1 y2 : ℕ) → x1 ≤ x2 → x2 ≤ a → y1 ≤ y2 → y2 ≤ b → areas (five_parts a b x1 x2 y1 y2) ≡ a * b
areas-five a b x1 x2 y1 y2 h1 h2 h3 h4 =
    let ex : x1 + (x2 - x1) ≡ x2 = omega arith in
    let ey : y1 + (y2 - y1) ≡ y2 = omega arith in
    let ea : x2 + (a - x2) ≡ a = omega arith in
    let eb : y2 + (b - y2) ≡ b = omega arith in
    let fa : (x2 - x1) + (a - x2) ≡ a - x1 = omega arith in
    let fb : (y2 - y1) + (b - y2) ≡ b - y1 = omega arith in
    let k = rw (fa, fb, ex, ey, ea, eb) at (five-sum x1 (x2 - x1) y1 (y2 - y1) (a - x2) (b - y2)) in
    omega (arith, k, area-rectangle x2 y1, area-rectangle (a - x2) y2, area-rectangle x1 (b - y1), area-rectangle (a - x1) (b - y2), area-rectangle (x2 - x1) (y2 - y1))

k1-sum : (x1 d u y1 v : ℕ) → x1 * (y1 + v) + d * y1 + (u * (y1 + v) + d * v) ≡ (x1 + d + u) * (y1 + v)
k1-sum x1 d u y1 v = omega arith

k2-sum : (c p q h s t : ℕ) → c * (h + s + t) + (p + q) * h + (p * (s + t) + q * s) ≡ (c + p) * (h + s + t) + q * (h + s)
k2-sum c p q h s t = omega arith

k3-sum : (x p q h s t : ℕ) → x * (s + t) + p * s + (q * (h + s) + (x + p) * h) ≡ x * (h + s + t) + (p + q) * (h + s)
k3-sum x p q h s t = omega arith

k4-sum : (c p q y s t : ℕ) → p * (y + s) + q * y + (c * (y + s + t) + p * t) ≡ (c + p) * (y + s + t) + q * y
k4-sum c p q y s t = omega arith

pub area-sides : (r : Region) → IsOrdered r → is_rectangle r ≡ true → area r ≡ side_x r * side_y r
area-sides r o h = go (rectangular r o h) where
  go : Rectangular r → area r ≡ side_x r * side_y r
  go (by_wide a b d c) = rw (a, b) c
  go (by_tall a b d c) = rw (a, b) c
  go (by_low a b c) = let z : r.big_x - 0 ≡ r.big_x = omega arith in rw (a, b, c, z) (omega arith)
  go (by_left a b c) = rw (a, b, c) (omega arith)

areas-k1 : (a b x1 x2 y1 : ℕ) → x1 ≤ x2 → x2 ≤ a → y1 ≤ b
    → area (region x2 b x1 y1) + area (region (a - x1) b (a - x2) (b - y1)) ≡ a * b
areas-k1 a b x1 x2 y1 h1 h2 h3 =
    let ex : x1 + (x2 - x1) ≡ x2 = omega arith in
    let ea : x2 + (a - x2) ≡ a = omega arith in
    let eb : y1 + (b - y1) ≡ b = omega arith in
    let ed : (a - x1) - (a - x2) ≡ x2 - x1 = omega arith in
    let k = rw (ex, ea, eb) at (k1-sum x1 (x2 - x1) (a - x2) y1 (b - y1)) in
    rw ed k

areas-k2 : (r : Region) (c h : ℕ) → IsOrdered r → c ≤ r.small_x → h ≤ r.small_y
    → area (region r.big_x r.big_y c h) + area (region (r.big_x - c) (r.big_y - h) (r.small_x - c) (r.small_y - h)) ≡ area r
areas-k2 r c h o h1 h2 =
    let ex : c + (r.small_x - c) ≡ r.small_x = omega arith in
    let eX : (r.small_x - c) + (r.big_x - r.small_x) ≡ r.big_x - c = omega arith in
    let ey : h + (r.small_y - h) ≡ r.small_y = omega arith in
    let eY : r.small_y + (r.big_y - r.small_y) ≡ r.big_y = omega arith in
    let eT : (r.small_y - h) + (r.big_y - r.small_y) ≡ r.big_y - h = omega arith in
    let ed : (r.big_x - c) - (r.small_x - c) ≡ r.big_x - r.small_x = omega arith in
    let k = rw (ex, eX, ey, eY, eT) at (k2-sum c (r.small_x - c) (r.big_x - r.small_x) h (r.small_y - h) (r.big_y - r.small_y)) in
    rw ed k

areas-k3 : (r : Region) (d h : ℕ) → IsOrdered r → r.small_x ≤ d → d ≤ r.big_x → h ≤ r.small_y
    → area (region d (r.big_y - h) r.small_x (r.small_y - h)) + area (region r.big_x r.small_y (r.big_x - d) h) ≡ area r
areas-k3 r d h o h1 h2 h3 =
    let ex : r.small_x + (d - r.small_x) ≡ d = omega arith in
    let eX : (d - r.small_x) + (r.big_x - d) ≡ r.big_x - r.small_x = omega arith in
    let ey : h + (r.small_y - h) ≡ r.small_y = omega arith in
    let eY : r.small_y + (r.big_y - r.small_y) ≡ r.big_y = omega arith in
    let eT : (r.small_y - h) + (r.big_y - r.small_y) ≡ r.big_y - h = omega arith in
    let ed : r.big_x - (r.big_x - d) ≡ d = omega arith in
    let k = rw (ex, eX, ey, eY, eT) at (k3-sum r.small_x (d - r.small_x) (r.big_x - d) h (r.small_y - h) (r.big_y - r.small_y)) in
    rw ed k

areas-k4 : (r : Region) (c e : ℕ) → IsOrdered r → c ≤ r.small_x → r.small_y ≤ e → e ≤ r.big_y
    → area (region (r.big_x - c) e (r.small_x - c) r.small_y) + area (region r.small_x r.big_y c (r.big_y - e)) ≡ area r
areas-k4 r c e o h1 h2 h3 =
    let ex : c + (r.small_x - c) ≡ r.small_x = omega arith in
    let ee : r.small_y + (e - r.small_y) ≡ e = omega arith in
    let eY : e + (r.big_y - e) ≡ r.big_y = omega arith in
    let ed : (r.big_x - c) - (r.small_x - c) ≡ r.big_x - r.small_x = omega arith in
    let k = rw (ex, ee, eY) at (k4-sum c (r.small_x - c) (r.big_x - r.small_x) r.small_y (e - r.small_y) (r.big_y - e)) in
    rw ed k

pub areas-ell : (r : Region) (cut : Cut) → IsOrdered r → IsCut r cut → areas (ell_parts r cut) ≡ area r
areas-ell r (K1 x1 x2 y1) o h = omega (arith, areas-k1 (side_x r) (side_y r) x1 x2 y1 h.1 h.2 h.3, area-sides r o h.0)
areas-ell r (K2 c k) o h = omega (arith, areas-k2 r c k o h.1 h.2)
areas-ell r (K3 d k) o h = omega (arith, areas-k3 r d k o h.1 h.2 h.3)
areas-ell r (K4 c e) o h = omega (arith, areas-k4 r c e o h.1 h.2 h.3)

-- each part's region is in order
abbrev pub AllOrdered : List Part → Type 0
AllOrdered [] = Unit {0}
AllOrdered (p ∷ ps) = IsOrdered p.region × AllOrdered ps

pub ordered-five : (a b x1 x2 y1 y2 : ℕ) → AllOrdered (five_parts a b x1 x2 y1 y2)
ordered-five a b x1 x2 y1 y2 =
    ((le_refl _, le_refl _), ((le_refl _, le_refl _), ((le_refl _, le_refl _), ((le_refl _, le_refl _), ((le_refl _, le_refl _), tt)))))

pub ordered-ell : (r : Region) (cut : Cut) → IsOrdered r → IsCut r cut → AllOrdered (ell_parts r cut)
ordered-ell r (K1 x1 x2 y1) o h = ((h.1, h.3), ((omega arith, omega arith), tt))
ordered-ell r (K2 c k) o h = ((omega arith, omega arith), ((omega arith, omega arith), tt))
ordered-ell r (K3 d k) o h = ((omega arith, omega arith), ((omega arith, omega arith), tt))
ordered-ell r (K4 c e) o h = ((omega arith, omega arith), ((omega arith, omega arith), tt))

pub lawful-ordered : (i : Inst) (r : Region) (b : Block) → IsLawful i r b → IsOrdered r
lawful-ordered i r Empty h = h
lawful-ordered i r (Grid way) h = h.0
lawful-ordered i r (Five' x1 x2 y1 y2 shape all) h = h.0
lawful-ordered i r (Ell' cut shape all) h = h.0

mutual
  pub held-le : (i : Inst) → (r : Region) (b : Block) → IsLawful i r b → held_count i r b ≤ area r
  held-le i r Empty h = omega arith
  held-le i r (Grid way) h = rw (area-sides r h.0 h.1) (grid-le i way (side_x r) (side_y r))
  held-le i r (Five' x1 x2 y1 y2 shape all) h =
      omega (
        arith,
        held_row-le i (five_parts (side_x r) (side_y r) x1 x2 y1 y2) all h.2 (ordered-five (side_x r) (side_y r) x1 x2 y1 y2),
        areas-five (side_x r) (side_y r) x1 x2 y1 y2 h.1.1 h.1.2 h.1.3 h.1.4,
        area-sides r h.0 h.1.0,
      )
  held-le i r (Ell' cut shape all) h =
      omega (arith, held_row-le i (ell_parts r cut) all h.2 (ordered-ell r cut h.0 h.1), areas-ell r cut h.0 h.1)

  held_row-le : (i : Inst) → (ps : List Part) {n : _} (k : Row_of-Node n) → AreLawfulRow i ps k → AllOrdered ps → held_count_row i k ≤ areas ps
  held_row-le i [] end_of-Node h o = omega arith
  held_row-le i (p ∷ ps) end_of-Node h o = absurd h
  held_row-le i [] (more_of-Node r b rest) h o = absurd h
  held_row-le i (p ∷ ps) (more_of-Node r b rest) h o =
      omega (arith, held-le i r b h.1, area-within r p.region (lawful-ordered i r b h.1) o.0 h.0, held_row-le i ps rest h.2 o.1)

pub side-le_x : (r : Region) → IsOrdered r → side_x r ≤ r.big_x
side-le_x r o =
    elim ((r.small_x == r.big_x) || (r.small_y == r.big_y) || (r.small_x == 0)) as (λ t. cond t r.big_x r.small_x ≤ r.big_x) [ true ↦ le_refl _ | false ↦ o.0 ]

pub side-le_y : (r : Region) → IsOrdered r → side_y r ≤ r.big_y
side-le_y r o =
    elim ((r.small_x == r.big_x) || (r.small_y == r.big_y)) as (λ t. cond t r.big_y (cond (r.small_x == 0) r.small_y r.big_y) ≤ r.big_y) [
      | true ↦ le_refl _
      | false ↦ elim (r.small_x == 0) as (λ t. cond t r.small_y r.big_y ≤ r.big_y) [ true ↦ o.1 | false ↦ le_refl _ ]
    ]
