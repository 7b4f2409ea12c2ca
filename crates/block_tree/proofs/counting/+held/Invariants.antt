use Rattle.std.proofs.Common.{◌≡◌, ◌+◌, drop}
use Rattle.block_tree.specs.Trees.{held_count_all, node_count, node_count_all}
use Rattle.block_tree.proofs.counting.+held.Given as goal

abbrev pub invariant-held_by_parts-loop-part : goal.invariant-held_by_parts-loop-part
invariant-held_by_parts-loop-part l = l.sum + held_count_all l.inst (drop l.part-index l.parts) ≡ held_count_all l.inst l.parts

abbrev pub decreases-held_count : goal.decreases-held_count
decreases-held_count l = node_count l.node.now.block

abbrev pub decreases-held_by_parts : goal.decreases-held_by_parts
decreases-held_by_parts l = node_count_all l.parts.now
