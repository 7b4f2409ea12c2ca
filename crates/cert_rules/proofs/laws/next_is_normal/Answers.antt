use Rattle.cert_rules.proofs.NextPoint.{next_is_normal as the_law}
use Rattle.cert_rules.proofs.laws.next_is_normal.Goals as goal

pub returns : goal.returns
returns c = the_law
