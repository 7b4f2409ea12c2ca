use Rattle.layout_map.proofs.Admits.{bounded_law}
use Rattle.layout_map.proofs.laws.same_sides_bound_alike.Goals as goal

pub returns : goal.returns
returns c = bounded_law
