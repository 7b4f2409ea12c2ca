use Rattle.dual_search.proofs.OneDual.{one_dual}
use Rattle.dual_search.proofs.laws.dual_is_one.Goals as goal

pub returns : goal.returns
returns c = one_dual
