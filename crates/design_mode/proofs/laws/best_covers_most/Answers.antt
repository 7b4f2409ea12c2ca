use Rattle.design_mode.proofs.Truth.{best-covers}
use Rattle.design_mode.proofs.laws.best_covers_most.Goals as goal

pub returns : goal.returns
returns c = best-covers
