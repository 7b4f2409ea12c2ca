use Rattle.l_patterns.proofs.NumberLemmas.{numbered}
use Rattle.l_patterns.proofs.laws.cuts_are_numbered.Goals as goal

pub returns : goal.returns
returns c = numbered
