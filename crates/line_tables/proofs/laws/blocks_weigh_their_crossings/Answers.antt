use Rattle.line_tables.proofs.BlockSteps.{block-crossings}
use Rattle.line_tables.proofs.laws.blocks_weigh_their_crossings.Goals as goal

pub returns : goal.returns
returns c = block-crossings
