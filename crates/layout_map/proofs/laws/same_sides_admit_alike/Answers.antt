use Rattle.layout_map.proofs.Admits.{admits_law}
use Rattle.layout_map.proofs.laws.same_sides_admit_alike.Goals as goal

pub returns : goal.returns
returns c = admits_law
