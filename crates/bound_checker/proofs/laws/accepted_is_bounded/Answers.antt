use Rattle.bound_checker.proofs.Soundness.{accepted}
use Rattle.bound_checker.proofs.laws.accepted_is_bounded.Goals as goal

pub returns : goal.returns
returns c = accepted
