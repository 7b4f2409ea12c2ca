use Rattle.cert_rules.proofs.Refuting.{refutes_bounds as the_law}
use Rattle.cert_rules.proofs.laws.refutes_bounds.Goals as goal

pub returns : goal.returns
returns c = the_law
