use Rattle.block_tables.proofs.BuildLemmas.{empty-serves}
use Rattle.block_tables.proofs.building.empty_node.Goals as goal

pub returns : goal.returns
returns c = λ I p q. rw c.rectangle.ensures (empty-serves I p q)
