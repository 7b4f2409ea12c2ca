use Rattle.plan_soundness.proofs.Bounds.{greatest}
use Rattle.plan_soundness.proofs.optimal_is_greatest.Goals as goal

pub returns : goal.returns
returns c = greatest
