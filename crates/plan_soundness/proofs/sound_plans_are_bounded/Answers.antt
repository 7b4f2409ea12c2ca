use Rattle.plan_soundness.proofs.Bounds.{bounded}
use Rattle.plan_soundness.proofs.sound_plans_are_bounded.Goals as goal

pub returns : goal.returns
returns c = bounded
