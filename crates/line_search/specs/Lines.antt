-- The lines of an axis: few units of the pallet's side that tell which cases overlap along it.
use Rattle.std.specs.Prelude.{◌≡◌, ℕ, ◌+◌, ◌-◌, ◌<◌, ◌≤◌}
use Rattle.plan_geometry.specs.declared.spots.Axis.{Axis}
use Rattle.plan_geometry.specs.declared.spots.Way.{Way}
use Rattle.plan_geometry.specs.declared.instances.Inst.{Inst}
use Rattle.plan_geometry.specs.Layout.{side, extent, IsLawfulWay}
use Rattle.partitions.specs.Partitions.{IsNormal}
use Rattle.raster_points.specs.Places.{IsRaster}

-- a case of this way starts at this raster place: the way is lawful, and the case fits along the axis
pub record IsStart (a : Axis) (I : Inst) (way : Way) (place : ℕ) : Type 0 where
  pub lawful : IsLawfulWay I way
  pub fits : extent a I way ≤ side a I
  pub raster : IsRaster (side a I - extent a I way) I.long I.short place

-- a case of this way that starts at a raster place ends here
pub record IsEndSo (a : Axis) (I : Inst) (way : Way) (place : ℕ) : Type 0 where
  pub start : ℕ
  pub starts : IsStart a I way start
  pub ends : place ≡ start + extent a I way

-- a case that starts at a raster place ends here
pub record IsEnd (a : Axis) (I : Inst) (place : ℕ) : Type 0 where
  pub way : Way
  pub ends : IsEndSo a I way place

-- the first end behind a start
pub record IsFirstEnd (a : Axis) (I : Inst) (start end : ℕ) : Type 0 where
  pub behind : start < end
  pub ends : IsEnd a I end
  pub first : (other : ℕ) → start < other → IsEnd a I other → end ≤ other

-- what this place leaves of the side is a total of case sides
pub record IsNormalFromEnd (a : Axis) (I : Inst) (place : ℕ) : Type 0 where
  pub within : place ≤ side a I
  pub normal : IsNormal (side a I) I.long I.short (side a I - place)

-- the last place before an end that leaves a total of case sides
pub record IsLastBefore (a : Axis) (I : Inst) (end place : ℕ) : Type 0 where
  pub before : place < end
  pub normal : IsNormalFromEnd a I place
  pub last : (other : ℕ) → other < end → IsNormalFromEnd a I other → other ≤ place

-- the line of a start: the last place before the first end behind it that leaves a total of case sides
pub record IsLineOf (a : Axis) (I : Inst) (start line : ℕ) : Type 0 where
  pub end : ℕ
  pub first : IsFirstEnd a I start end
  pub last : IsLastBefore a I end line

-- a line of the axis: that of some start of a case
pub record IsLine (a : Axis) (I : Inst) (line : ℕ) : Type 0 where
  pub way : Way
  pub start : ℕ
  pub starts : IsStart a I way start
  pub line_of : IsLineOf a I start line
