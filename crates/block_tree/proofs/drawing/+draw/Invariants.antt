use Rattle.std.proofs.Common.{◌≡◌, ◌++◌, drop}
use Rattle.block_tree.specs.Trees.{node_count, node_count_all}
use Rattle.block_tree.specs.Drawing.{drawn_all}
use Rattle.block_tree.proofs.drawing.+draw.Given as goal

abbrev pub invariant-draw_parts-loop-k : goal.invariant-draw_parts-loop-k
invariant-draw_parts-loop-k l = l.out.items ++ drawn_all l.inst (drop l.k l.places) (drop l.k l.parts) ≡ drawn_all l.inst l.places l.parts

abbrev pub decreases-draw_node : goal.decreases-draw_node
decreases-draw_node l = node_count l.node.now.block

abbrev pub decreases-draw_parts : goal.decreases-draw_parts
decreases-draw_parts l = node_count_all l.parts.now
