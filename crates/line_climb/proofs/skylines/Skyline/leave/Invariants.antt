-- The steps that are left to take back.
use Rattle.std.proofs.Common.{length}
use Rattle.line_climb.proofs.skylines.Skyline.leave.Given as goal

abbrev pub decreases-loop-frame : goal.decreases-loop-frame
decreases-loop-frame l = length l.self.frames.items
