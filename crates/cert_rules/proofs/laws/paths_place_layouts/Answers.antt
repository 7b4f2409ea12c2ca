use Rattle.cert_rules.proofs.Placed.{paths_place_layouts as the_law}
use Rattle.cert_rules.proofs.laws.paths_place_layouts.Goals as goal

pub returns : goal.returns
returns c = the_law
