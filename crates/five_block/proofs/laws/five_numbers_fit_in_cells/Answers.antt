use Rattle.block_tables.specs.declared.patterns.Pattern.TheVariants.{Five}
use Rattle.block_tables.proofs.BoundLemmas.{area}
use Rattle.five_block.proofs.laws.five_numbers_fit_in_cells.Goals as goal

pub returns : goal.returns
returns c = λ I a b n h. area I Five h
