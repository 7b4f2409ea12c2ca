use Rattle.stack_builder.proofs.FirstPairs.{stacks-known}
use Rattle.stack_builder.proofs.laws.stacks_are_known_by_first_pairs.Goals as goal

pub returns : goal.returns
returns c = stacks-known
