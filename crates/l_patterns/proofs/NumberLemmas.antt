-- Each cut has a number.
use Rattle.std.proofs.Common.{◌≡◌, ℕ, ◌+◌, ◌*◌, ◌/◌, ◌%◌, ◌≤◌, ◌<◌, refl, ap, arith, inl, inr, List, length, slice_index}
use Rattle.std.proofs.lemmas.Bool.{cases_lt}
use Rattle.std.proofs.lemmas.Nat.{div-mul-add, mod-mul-add}
use Rattle.std.proofs.Math.Nat.{div-mul-le_self, mod-lt, mul-le-mul_right}
use Rattle.plan_geometry.specs.declared.instances.Inst.{Inst}
use Rattle.block_tree.specs.declared.regions.Region.{Region}
use Rattle.block_tree.specs.declared.regions.Cut.{Cut}
use Rattle.block_tree.specs.declared.regions.Cut.TheVariants.{K1, K2, K3, K4}
use Rattle.block_tree.specs.Regions.{side_x, side_y}
use Rattle.block_tree.specs.Parts.{IsCut}
use Rattle.block_tree.proofs.AreaLemmas.{side-le_x, side-le_y}
use Rattle.block_tables.specs.Numbers.{IsSum}
use Rattle.block_tables.specs.Tables.{ArePlaced}
use Rattle.block_tables.proofs.BoundLemmas.{down-same}
use Rattle.l_patterns.specs.declared.sides.Sides.{Sides}
use Rattle.l_patterns.specs.declared.sides.Side.{Side}
use Rattle.l_patterns.specs.Ells.{IsNormalCut}
use Rattle.l_patterns.specs.Cuts.{IsSide, AreSidesOf, Fits, count_up_to, cut_count, count_k2, count_k3, IsNth, by_k1, by_k2, by_k3, by_k4, point}
use Rattle.l_patterns.specs.Laws.{NumberingLaw}

-- a point up to s has a place below the number of points up to s
pub place : (i : Inst) (xs dx : List ℕ) (p s : ℕ) → ArePlaced i xs dx → IsSum i p → p ≤ s → s < length dx
    → (slice_index dx p < slice_index dx s + 1) × (slice_index xs (slice_index dx p) ≡ p)
place i xs dx p s g u h w =
    let d = g.downs p (omega arith) in
    let e = g.downs s w in
    let same : slice_index xs (slice_index dx p) ≡ p = down-same i p _ u d in
    let le : p ≤ slice_index xs (slice_index dx s) = e.greatest p (record { i = u.i; j = u.j; sum = u.sum; within = h }) in (
      elim (cases_lt (slice_index dx s) (slice_index dx p)) [
        | inl v ↦ absurd (omega (arith, g.rising (slice_index dx s) (slice_index dx p) v (g.places p (omega arith))))
        | inr v ↦ omega arith
      ],
      same,
    )

-- two places in one number
pub pair-lt : (a b n m : ℕ) → a < m → b < n → a * n + b < m * n
pair-lt a b n m h k = let c : (a + 1) * n ≤ m * n = mul-le-mul_right n (omega arith) in let d : (a + 1) * n ≡ a * n + n = omega arith in omega arith

module _ (q : Sides) (r : Region) (g : AreSidesOf q) (f : Fits q r) where
  at_x : (p s : ℕ) → IsSum q.inst p → p ≤ s → s ≤ r.big_x → (slice_index q.x.places.now p < count_up_to q.x s) × (point q.x (slice_index q.x.places.now p) ≡ p)
  at_x p s u h w = place q.inst q.x.points.now q.x.places.now p s g.on_x.placed u h (omega (arith, g.on_x.long, f.wide))

  at_y : (p s : ℕ) → IsSum q.inst p → p ≤ s → s ≤ r.big_y → (slice_index q.y.places.now p < count_up_to q.y s) × (point q.y (slice_index q.y.places.now p) ≡ p)
  at_y p s u h w = place q.inst q.y.points.now q.y.places.now p s g.on_y.placed u h (omega (arith, g.on_y.long, f.tall))

  pub indexed : (cut : Cut) → IsCut r cut → IsNormalCut q.inst cut → (k : ℕ) × (k < cut_count q r) × IsNth q r k cut
  indexed (K1 x1 x2 y1) h u =
      let o = f.region.ordered in
      let n : ℕ = count_up_to q.x (side_x r) in
      let m : ℕ = count_up_to q.y (side_y r) in
      let a = at_x x1 (side_x r) u.0 (omega (arith, h.1, h.2)) (side-le_x r o) in
      let b = at_x x2 (side_x r) u.1 h.2 (side-le_x r o) in
      let c = at_y y1 (side_y r) u.2 h.3 (side-le_y r o) in
      let i : ℕ = slice_index q.x.places.now x1 in
      let j : ℕ = slice_index q.x.places.now x2 in
      let t : ℕ = slice_index q.y.places.now y1 in (
        (i * n + j) * m + t,
        rw h.0 (pair-lt (i * n + j) t m (n * n) (pair-lt i j n n a.0 b.0) c.0),
        by_k1 h.0 (rw (div-mul-add (i * n + j) m t c.0, mod-mul-add (i * n + j) m t c.0, div-mul-add i n j b.0, mod-mul-add i n j b.0, a.1, b.1, c.1) refl),
      )
  indexed (K2 x y) h u =
      let o = f.region.ordered in
      let m : ℕ = count_up_to q.y r.small_y in
      let a = at_x x r.small_x u.0 h.1 o.0 in
      let b = at_y y r.small_y u.1 h.2 o.1 in
      let i : ℕ = slice_index q.x.places.now x in
      let j : ℕ = slice_index q.y.places.now y in
      let lt = pair-lt i j m (count_up_to q.x r.small_x) a.0 b.0 in
      (i * m + j, rw h.0 (omega (arith, lt)), by_k2 h.0 lt (rw (div-mul-add i m j b.0, mod-mul-add i m j b.0, a.1, b.1) refl))
  indexed (K3 x y) h u =
      let o = f.region.ordered in
      let m : ℕ = count_up_to q.y r.small_y in
      let a = at_x x r.big_x u.0 h.2 (omega arith) in
      let b = at_y y r.small_y u.1 h.3 o.1 in
      let i : ℕ = slice_index q.x.places.now x in
      let j : ℕ = slice_index q.y.places.now y in
      let lt = pair-lt i j m (count_up_to q.x r.big_x) a.0 b.0 in
      (count_k2 q r + (i * m + j), rw h.0 (omega (arith, lt)), by_k3 (i * m + j) h.0 refl lt (rw (div-mul-add i m j b.0, mod-mul-add i m j b.0, a.1, b.1) refl))
  indexed (K4 x y) h u =
      let o = f.region.ordered in
      let m : ℕ = count_up_to q.y r.big_y in
      let a = at_x x r.small_x u.0 h.1 o.0 in
      let b = at_y y r.big_y u.1 h.3 (omega arith) in
      let i : ℕ = slice_index q.x.places.now x in
      let j : ℕ = slice_index q.y.places.now y in
      let lt = pair-lt i j m (count_up_to q.x r.small_x) a.0 b.0 in
      (count_k2 q r + count_k3 q r + (i * m + j), rw h.0 (omega (arith, lt)), by_k4 (i * m + j) h.0 refl (rw (div-mul-add i m j b.0, mod-mul-add i m j b.0, a.1, b.1) refl))

pub numbered : NumberingLaw
numbered q r cut g f h u = indexed q r g f cut h u

pub quotient : (k a m : ℕ) → k < a * m → k / m < a
quotient k a m h =
    elim (cases_lt (k / m) a) [
      | inl w ↦ w
      | inr w ↦ absurd (let c : a * m ≤ (k / m) * m = mul-le-mul_right m w in omega (arith, div-mul-le_self k m))
    ]

pub remainder : (k a m : ℕ) → k < a * m → k % m < m
remainder k a m h = elim (cases_lt 0 m) [ inl w ↦ mod-lt k w | inr w ↦ absurd (let e : m ≡ 0 = omega arith in let c : a * m ≡ a * 0 = ap (λ z. a * z) e in omega arith) ]

pub place-in : (i : Inst) (xs dx : List ℕ) (s j : ℕ) → ArePlaced i xs dx → s < length dx → j < slice_index dx s + 1 → j < length xs
place-in i xs dx s j g h w = let d = g.places s h in omega arith

-- there are at most as many normal places up to a length as there are in all
pub few-up-to : (i : Inst) (s : Side) (long n : ℕ) → IsSide i s long → n ≤ long → count_up_to s n ≤ 200
few-up-to i s long n g h = let p = g.placed.places n (omega (arith, g.long)) in let f = g.few in omega arith

pub point-sum : (i : Inst) (s : Side) (long : ℕ) → IsSide i s long → (n j : ℕ) → n ≤ long → j < count_up_to s n → IsSum i (point s j)
point-sum i s long g n j h w = g.placed.sums j (place-in i s.points.now s.places.now n j g.placed (omega (arith, g.long)) w)

pub point-in : (i : Inst) (s : Side) (long : ℕ) → IsSide i s long → (n j : ℕ) → n ≤ long → j < count_up_to s n → j < length s.points.now
point-in i s long g n j h w = place-in i s.points.now s.places.now n j g.placed (omega (arith, g.long)) w
