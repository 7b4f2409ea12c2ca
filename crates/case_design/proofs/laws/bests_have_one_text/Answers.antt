use Rattle.case_design.proofs.BestTexts.{one_text}
use Rattle.case_design.proofs.laws.bests_have_one_text.Goals as goal

pub returns : goal.returns
returns c = one_text
