use Rattle.std.proofs.Common.{◌≡◌, ◌++◌, map, take}
use Rattle.block_tree.specs.Drawing.{placed}
use Rattle.block_tree.proofs.drawing.place_all.Given as goal

abbrev pub invariant-loop-s : goal.invariant-loop-s
invariant-loop-s l = l.out.items ≡ l.initial.out.items ++ map (placed l.inst l.p) (take l.s-index l.spots)
