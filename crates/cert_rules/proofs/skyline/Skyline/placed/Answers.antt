use Rattle.cert_rules.proofs.Paths.{path-at}
use Rattle.cert_rules.proofs.skyline.Skyline.placed.Goals as goal

pub returns-clause-path : goal.returns-clause-path
returns-clause-path c = path-at c.self.inside c.args.self.now c.self.invariant c.self.view_is
