use Rattle.case_design.proofs.BestFacts.{best_is_one}
use Rattle.case_design.proofs.laws.bests_are_one.Goals as goal

pub returns : goal.returns
returns c = best_is_one
