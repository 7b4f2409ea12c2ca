use Rattle.report_checker.proofs.OneVerdict.{accepted}
use Rattle.report_checker.proofs.laws.sound_plans_are_accepted.Goals as goal

pub returns : goal.returns
returns c = accepted
