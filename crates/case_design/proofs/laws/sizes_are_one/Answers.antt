use Rattle.case_design.proofs.SizeSteps.{one_list}
use Rattle.case_design.proofs.laws.sizes_are_one.Goals as goal

pub returns : goal.returns
returns c = one_list
