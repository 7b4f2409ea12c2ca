use Rattle.std.specs.Prelude.{ℕ, ◌+◌, ◌-◌, ◌<◌}
use Rattle.plan_geometry.specs.declared.spots.Way.{Way}
use Rattle.plan_geometry.specs.declared.spots.Axis.{Axis}
use Rattle.plan_geometry.specs.declared.spots.Axis.TheVariants.{X, Y}
use Rattle.plan_geometry.specs.declared.spots.Spot.{Spot}
use Rattle.plan_geometry.specs.declared.instances.Inst.{Inst}
use Rattle.plan_geometry.specs.Layout.{side, extent, start}

-- the gap is less than each of the instance's four numbers, each of which contains it
pub record IsGapOf (I : Inst) (gap : ℕ) : Type 0 where
  pub l_side : gap < I.l_side
  pub w_side : gap < I.w_side
  pub long : gap < I.long
  pub short : gap < I.short

-- the other direction
abbrev pub other : Axis → Axis
other X = Y
other Y = X

-- the pallet's real side: that of the instance less the gap
abbrev pub real_side : Axis → Inst → ℕ → ℕ
real_side a I gap = side a I - gap

-- how far a real case reaches
abbrev pub real_extent : Axis → Inst → ℕ → Way → ℕ
real_extent a I gap w = extent a I w - gap

-- where a real case ends
abbrev pub real_finish : Axis → Inst → ℕ → Spot → ℕ
real_finish a I gap s = start a s + real_extent a I gap s.way
