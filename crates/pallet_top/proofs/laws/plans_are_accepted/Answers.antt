use Rattle.pallet_top.proofs.Accepted.{accepted}
use Rattle.pallet_top.proofs.laws.plans_are_accepted.Goals as goal

pub returns : goal.returns
returns c = accepted
