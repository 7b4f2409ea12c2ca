use Rattle.plan_soundness.proofs.Bounds.{reached}
use Rattle.plan_soundness.proofs.counts_are_reached.Goals as goal

pub returns : goal.returns
returns c = reached
