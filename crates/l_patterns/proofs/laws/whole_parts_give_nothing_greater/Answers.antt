use Rattle.l_patterns.proofs.EllLemmas.{whole}
use Rattle.l_patterns.proofs.laws.whole_parts_give_nothing_greater.Goals as goal

pub returns : goal.returns
returns c = whole
