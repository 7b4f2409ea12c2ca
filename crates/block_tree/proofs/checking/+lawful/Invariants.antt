use Rattle.std.proofs.Common.{◌↔◌, drop}
use Rattle.block_tree.specs.Trees.{AreLawful, node_count, node_count_all}
use Rattle.block_tree.proofs.checking.+lawful.Given as goal

abbrev pub invariant-are_lawful-loop-k : goal.invariant-are_lawful-loop-k
invariant-are_lawful-loop-k l = AreLawful l.inst (drop l.k l.places) (drop l.k l.parts) ↔ AreLawful l.inst l.places l.parts

abbrev pub decreases-is_lawful : goal.decreases-is_lawful
decreases-is_lawful l = node_count l.node.now.block

abbrev pub decreases-are_lawful : goal.decreases-are_lawful
decreases-are_lawful l = node_count_all l.parts.now
