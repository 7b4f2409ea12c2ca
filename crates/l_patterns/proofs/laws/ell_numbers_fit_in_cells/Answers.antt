use Rattle.l_patterns.proofs.EllLemmas.{cells}
use Rattle.l_patterns.proofs.laws.ell_numbers_fit_in_cells.Goals as goal

pub returns : goal.returns
returns c = cells
