use Rattle.plan_geometry.specs.declared.instances.Inst.{Inst}
use Rattle.block_tree.specs.declared.nodes.Node.{Node}

-- what a block tree is: the instance, and the node of the whole
pub record Rooted : Type 0 where
  pub inst : Inst
  pub root : Node
