use Rattle.strip_cuts.proofs.Bounds.{lie_or_stand}
use Rattle.strip_cuts.proofs.laws.cases_lie_or_stand.Goals as goal

pub returns : goal.returns
returns c = lie_or_stand
