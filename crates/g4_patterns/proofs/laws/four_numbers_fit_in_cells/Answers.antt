use Rattle.block_tables.specs.declared.patterns.Pattern.TheVariants.{Four}
use Rattle.block_tables.proofs.BoundLemmas.{area}
use Rattle.g4_patterns.proofs.laws.four_numbers_fit_in_cells.Goals as goal

pub returns : goal.returns
returns c = λ I a b n h. area I Four h
