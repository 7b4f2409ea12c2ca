use Rattle.plan_geometry.proofs.LayoutSteps.{Admits-fewer}
use Rattle.plan_geometry.proofs.laws.fewer_are_admitted.Goals as goal

pub returns : goal.returns
returns c = Admits-fewer
