use Rattle.stack_builder.proofs.FirstPairs.{moves-keep}
use Rattle.stack_builder.proofs.laws.moves_keep_rules.Goals as goal

pub returns : goal.returns
returns c = moves-keep
