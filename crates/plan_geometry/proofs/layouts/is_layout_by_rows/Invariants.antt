use Rattle.std.proofs.Common.{◌≤◌, take}
use Rattle.plan_geometry.specs.Layout.{IsLayout}
use Rattle.plan_geometry.proofs.LayoutSteps.{AreFarFrom}
use Rattle.plan_geometry.proofs.layouts.is_layout_by_rows.Given as goal

-- the cases before `first` end at or before the rows of each from `i` on
abbrev pub invariant-loop-i : goal.invariant-loop-i
invariant-loop-i l = (l.first ≤ l.i) × (IsLayout l.inst (take l.i l.spots) × AreFarFrom l.inst l.spots l.first l.i)
