use Rattle.block_tree.proofs.TileLemmas.{ell}
use Rattle.block_tree.proofs.laws.parts_of_cuts_tile.Goals as goal

pub returns : goal.returns
returns c = ell
