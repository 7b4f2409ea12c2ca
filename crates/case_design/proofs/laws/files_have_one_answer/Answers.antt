use Rattle.case_design.proofs.OneAnswer.{one_answer}
use Rattle.case_design.proofs.laws.files_have_one_answer.Goals as goal

pub returns : goal.returns
returns c = one_answer
