-- The positions of a case on a pallet, and the lightest of them.
use Rattle.std.specs.Prelude.{◌≡◌, ℕ, ◌+◌, ◌-◌, ◌*◌, ◌<◌, ◌≤◌, ◌⊎◌, ◌↔◌, List, length, slice_index}
use Rattle.plan_geometry.specs.declared.spots.Axis.{Axis}
use Rattle.plan_geometry.specs.declared.spots.Axis.TheVariants.{X, Y}
use Rattle.plan_geometry.specs.declared.spots.Spot.{Spot}
use Rattle.plan_geometry.specs.declared.spots.Way.{Way}
use Rattle.plan_geometry.specs.declared.spots.Way.TheVariants.{Lying, Standing}
use Rattle.plan_geometry.specs.declared.instances.Inst.{Inst}
use Rattle.plan_geometry.specs.Layout.{side, extent, x_extent, y_extent, IsInside, IsLawfulWay, StandsBefore}
use Rattle.plan_geometry.specs.Weight.{block_weight, spot_weight}
use Rattle.dual_search.specs.declared.positions.Lightest.{Lightest}
use Rattle.dual_search.specs.declared.positions.Window.{Window}

-- how many places along an axis the corner of a case of this way has
abbrev pub places : Axis → Inst → Way → ℕ
places axis I way = (side axis I + 1) - extent axis I way

-- the window holds the corners along an axis at which a case of this way covers the place
abbrev pub IsWindow : Axis → Inst → Way → ℕ → Window → Type 0
IsWindow axis I way place w =
    (u : ℕ) → u < places axis I way
    → ((w.from ≤ u) × (u < w.from + w.count)) ↔ ((u ≤ place) × (place < u + extent axis I way))

-- what the cases of a way weigh, by the y and then the x of their corners, where g is the weight of each cell
pub record HoldWeights (I : Inst) (way : Way) (g : ℕ → ℕ → ℕ) (weights : List ℕ) : Type 0 where
  pub count : length weights ≡ places X I way * places Y I way
  pub at : (x y : ℕ) → x < places X I way → y < places Y I way
      → slice_index weights (y * places X I way + x) ≡ block_weight g x y (x_extent I way) (y_extent I way)

-- no case of this way lies on the pallet
abbrev pub HasNoPosition : Inst → Way → Type 0
HasNoPosition I way = (s : Spot) → IsInside I s → IsLawfulWay I s.way → s.way ≡ way → ⊥

-- the order of positions: lying ones first, then by y, then by x
abbrev pub ComesBefore : Spot → Spot → Type 0
ComesBefore s t = ((s.way ≡ Lying) × (t.way ≡ Standing)) ⊎ ((s.way ≡ t.way) × StandsBefore s t)

-- of the cases of a way that lie on the pallet, the first lightest, with its weight
pub record IsLightestOfWay (I : Inst) (way : Way) (g : ℕ → ℕ → ℕ) (l : Lightest) : Type 0 where
  pub is_way : l.spot.way ≡ way
  pub inside : IsInside I l.spot
  pub lawful : IsLawfulWay I l.spot.way
  pub weighs : spot_weight g I l.spot ≡ l.weight
  pub least : (t : Spot) → IsInside I t → t.way ≡ way → l.weight ≤ spot_weight g I t
  pub first : (t : Spot) → IsInside I t → t.way ≡ way → StandsBefore t l.spot → l.weight < spot_weight g I t

-- of the cases that lie on the pallet in a lawful way, the first lightest
pub record IsFirstLightest (I : Inst) (g : ℕ → ℕ → ℕ) (s : Spot) : Type 0 where
  pub inside : IsInside I s
  pub lawful : IsLawfulWay I s.way
  pub least : (t : Spot) → IsInside I t → IsLawfulWay I t.way → spot_weight g I s ≤ spot_weight g I t
  pub first : (t : Spot) → IsInside I t → IsLawfulWay I t.way → ComesBefore t s → spot_weight g I s < spot_weight g I t

-- the same, with its weight
pub record IsLightest (I : Inst) (g : ℕ → ℕ → ℕ) (l : Lightest) : Type 0 where
  pub spot : IsFirstLightest I g l.spot
  pub weighs : spot_weight g I l.spot ≡ l.weight
