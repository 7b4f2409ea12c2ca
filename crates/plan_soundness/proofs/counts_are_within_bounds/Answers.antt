use Rattle.plan_soundness.proofs.Bounds.{within}
use Rattle.plan_soundness.proofs.counts_are_within_bounds.Goals as goal

pub returns : goal.returns
returns c = within
