use Rattle.strip_cuts.proofs.Bounds.{bound}
use Rattle.strip_cuts.proofs.laws.strips_bound.Goals as goal

pub returns : goal.returns
returns c = bound
