use Rattle.choice_mode.proofs.Holding.{chosen-holds}
use Rattle.choice_mode.proofs.laws.chosen_holds_most.Goals as goal

pub returns : goal.returns
returns c = chosen-holds
