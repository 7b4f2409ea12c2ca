use Rattle.block_tables.proofs.BoundLemmas.{area}
use Rattle.block_tables.proofs.laws.numbers_fit_in_cells.Goals as goal

pub returns : goal.returns
returns c = λ i pat a b n h. area i pat h
