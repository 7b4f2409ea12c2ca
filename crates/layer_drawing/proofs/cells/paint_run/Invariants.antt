use Rattle.std.proofs.Common.{◌≡◌, ℕ, get_or, cond}
use Rattle.layer_drawing.proofs.Painting.{between}
use Rattle.layer_drawing.proofs.cells.paint_run.Given as goal

abbrev pub invariant-loop-i : goal.invariant-loop-i
invariant-loop-i l = (j : ℕ) → get_or l.cells j 0 ≡ cond (between l.from l.i j) l.character (get_or l.initial.cells j 0)
