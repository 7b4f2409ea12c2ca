use Rattle.report_checker.proofs.OneVerdict.{tells-soundness}
use Rattle.report_checker.proofs.laws.accepted_plans_are_sound.Goals as goal

pub returns : goal.returns
returns c = tells-soundness
