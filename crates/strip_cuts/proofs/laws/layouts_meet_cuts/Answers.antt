use Rattle.strip_cuts.proofs.Bounds.{meet_cuts}
use Rattle.strip_cuts.proofs.laws.layouts_meet_cuts.Goals as goal

pub returns : goal.returns
returns c = meet_cuts
