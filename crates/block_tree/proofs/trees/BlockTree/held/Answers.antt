use Rattle.block_tree.proofs.DrawingLemmas.{root-admits}
use Rattle.block_tree.proofs.trees.BlockTree.held.Goals as goal

pub returns-clause-admitted : goal.returns-clause-admitted
returns-clause-admitted c =
    rw (← c.self.view_is, c.held_count.ensures) (root-admits c.self.inside.inst c.self.inside.root c.self.invariant)
