use Rattle.block_tree.proofs.TileLemmas.{five}
use Rattle.block_tree.proofs.laws.parts_of_five_tile.Goals as goal

pub returns : goal.returns
returns c = five
