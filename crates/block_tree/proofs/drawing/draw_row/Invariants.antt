use Rattle.std.proofs.Common.{◌≡◌, ◌++◌}
use Rattle.block_tree.specs.Drawing.{row_spots}
use Rattle.block_tree.proofs.drawing.draw_row.Given as goal

abbrev pub invariant-loop-k : goal.invariant-loop-k
invariant-loop-k l = l.out.items ≡ l.initial.out.items ++ row_spots l.inst l.way l.y l.k
