use Rattle.std.specs.Prelude.{◌≡◌, ℕ, ◌+◌, ◌<◌, ◌≤◌, List, length, slice_index_or}
use Rattle.plan_geometry.specs.declared.spots.Axis.{Axis}
use Rattle.plan_geometry.specs.declared.instances.Inst.{Inst}
use Rattle.plan_geometry.specs.Layout.{side}
use Rattle.partitions.specs.Partitions.{IsNormal}
use Rattle.raster_points.specs.Places.{IsDown, Lists}

-- what the points of a side are: the side, the sides of the case, and the normal places
pub record SidePoints : Type 0 where
  pub side : ℕ
  pub long : ℕ
  pub short : ℕ
  pub normal : List ℕ

-- the list is that of the normal places, and the sides are those that a pallet and a case have
pub record AreAllNormal (side long short : ℕ) (normal : List ℕ) : Type 0 where
  pub short_min : 1 ≤ short
  pub ordered : short ≤ long
  pub long_max : long ≤ 4000
  pub side_max : side ≤ 4000
  pub exact : Lists (IsNormal side long short) normal

abbrev pub ArePoints : SidePoints → Type 0
ArePoints p = AreAllNormal p.side p.long p.short p.normal

-- the points of the pallet's side along an axis
pub record ArePointsOf (a : Axis) (inst : Inst) (p : SidePoints) : Type 0 where
  pub of_side : p.side ≡ side a inst
  pub of_long : p.long ≡ inst.long
  pub of_short : p.short ≡ inst.short

-- at each place up to the side the table has the greatest normal place up to there
pub record IsDownTable (side long short : ℕ) (downs : List ℕ) : Type 0 where
  pub count : length downs ≡ side + 1
  pub each : (k d : ℕ) → k < length downs → IsDown k long short (slice_index_or downs k d)

-- the greatest normal place before a place, or 0
pub record IsDownBefore (long short place down : ℕ) : Type 0 where
  pub normal : IsNormal down long short down
  pub below : down ≤ place
  pub greatest : (other : ℕ) → IsNormal other long short other → other < place → other ≤ down
