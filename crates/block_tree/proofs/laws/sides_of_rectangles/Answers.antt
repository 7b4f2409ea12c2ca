use Rattle.block_tree.proofs.TileLemmas.{sides}
use Rattle.block_tree.proofs.laws.sides_of_rectangles.Goals as goal

pub returns : goal.returns
returns c = sides
