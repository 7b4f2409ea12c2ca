use Rattle.block_tree.proofs.AreaLemmas.{area-sides}
use Rattle.block_tree.proofs.laws.areas_of_rectangles.Goals as goal

pub returns : goal.returns
returns c = area-sides
