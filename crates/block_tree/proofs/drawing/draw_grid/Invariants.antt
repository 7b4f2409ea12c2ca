use Rattle.std.proofs.Common.{◌≡◌}
use Rattle.block_tree.specs.Drawing.{grid_spots}
use Rattle.block_tree.proofs.drawing.draw_grid.Given as goal

abbrev pub invariant-loop-j : goal.invariant-loop-j
invariant-loop-j l = l.out.items ≡ grid_spots l.inst l.way l.n l.j
