-- The columns that are left.
use Rattle.std.proofs.Common.{◌-◌}
use Rattle.line_climb.proofs.skylines.Skyline.corner.Given as goal

abbrev pub decreases-loop-x : goal.decreases-loop-x
decreases-loop-x l = l.columns - l.x
