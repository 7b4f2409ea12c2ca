use Rattle.std.specs.Prelude.{◌≡◌, ℕ, ◌+◌, ◌-◌, ◌*◌, ◌/◌, ◌%◌, min, ◌<◌, ◌≤◌, ◌⊎◌, ◌==◌, ◌&&◌, ⊤}
use Rattle.plan_geometry.specs.declared.spots.Spot.{Spot}
use Rattle.plan_geometry.specs.declared.spots.Way.{Way}
use Rattle.plan_geometry.specs.declared.instances.Inst.{Inst}
use Rattle.plan_geometry.specs.Layout.{IsInside, IsLawfulWay}
use Rattle.plan_geometry.specs.Weight.{spot_weight, total_weight, WeighsAtLeast}
use Rattle.line_tables.specs.Lines.{weight_at, BelongsTo}
use Rattle.weightings.specs.declared.kinds.Weighting.{Weighting}
use Rattle.weightings.specs.declared.kinds.Weighting.TheVariants.{Area, Colour, Comb, Table, Lines}
use Rattle.weightings.specs.Line.{one_if}
use Rattle.weightings.specs.Table.{cell_of}

-- what a cell weighs
abbrev pub weight_of : Weighting → ℕ → ℕ → ℕ
weight_of Area x y = 1
weight_of (Colour k c) x y = one_if ((x + y) % k == c)
weight_of (Comb p a r b) x y = one_if ((x % p == a) && (y % r == b))
weight_of (Table t) x y = cell_of t x y
weight_of (Lines t) x y = weight_at t x y

-- the weighting has a weight for this cell: no divisor is 0, and a table of all cells has the cell
abbrev pub HasCell : Weighting → ℕ → ℕ → Type 0
HasCell Area x y = ⊤
HasCell (Colour k c) x y = 1 ≤ k
HasCell (Comb p a r b) x y = (1 ≤ p) × (1 ≤ r)
HasCell (Table t) x y = (x < t.x_side) × (y < t.y_side)
HasCell (Lines t) x y = ⊤

-- k is a side of the case
abbrev pub IsCaseSide : Inst → ℕ → Type 0
IsCaseSide I k = (k ≡ I.long) ⊎ (k ≡ I.short)

-- the weighting is in the family of the instance, which has no table
abbrev pub IsMember : Inst → Weighting → Type 0
IsMember I Area = ⊤
IsMember I (Colour k c) = IsCaseSide I k × (c < k)
IsMember I (Comb p a r b) = IsCaseSide I p × (a < p) × IsCaseSide I r × (b < r)
IsMember I (Table t) = ⊥
IsMember I (Lines t) = ⊥

-- the weighting is in the family of the instance, or is a table that has the pallet's sides, or one whose lines the pallet
-- has
abbrev pub IsLawfulWeighting : Inst → Weighting → Type 0
IsLawfulWeighting I Area = IsMember I Area
IsLawfulWeighting I (Colour k c) = IsMember I (Colour k c)
IsLawfulWeighting I (Comb p a r b) = IsMember I (Comb p a r b)
IsLawfulWeighting I (Table t) = (t.x_side ≡ I.l_side) × (t.y_side ≡ I.w_side)
IsLawfulWeighting I (Lines t) = BelongsTo t I

-- q is the least weight of a case of this way inside the pallet
pub record IsLeastOfWay (I : Inst) (g : ℕ → ℕ → ℕ) (w : Way) (q : ℕ) : Type 0 where
  pub bound : (s : Spot) → IsInside I s → s.way ≡ w → q ≤ spot_weight g I s
  pub x : ℕ
  pub y : ℕ
  pub inside : IsInside I (record { x = x; y = y; way = w })
  pub reached : spot_weight g I (record { x = x; y = y; way = w }) ≡ q

-- q is the least weight of a case inside the pallet, over all lawful ways
pub record IsLeastWeight (I : Inst) (g : ℕ → ℕ → ℕ) (q : ℕ) : Type 0 where
  pub bound : WeighsAtLeast g I q
  pub spot : Spot
  pub inside : IsInside I spot
  pub lawful : IsLawfulWay I spot.way
  pub reached : spot_weight g I spot ≡ q

-- n is the total divided by the least weight, which is not 0
pub record IsWeightBound (I : Inst) (g : ℕ → ℕ → ℕ) (n : ℕ) : Type 0 where
  pub least : ℕ
  pub is_least : IsLeastWeight I g least
  pub some : 0 < least
  pub value : n ≡ total_weight g I / least

-- What the rarest colour mod k leaves out, beside the pallet's area: with r and s what the two sides leave mod k,
-- the lesser of r * s and (k - r) * (k - s).
abbrev pub colour_loss : Inst → ℕ → ℕ
colour_loss I k =
    let r = I.l_side % k in
    let s = I.w_side % k in min (r * s) ((k - r) * (k - s))
