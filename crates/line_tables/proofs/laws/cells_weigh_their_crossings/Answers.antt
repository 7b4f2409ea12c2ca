use Rattle.line_tables.proofs.CellSteps.{cell-crossing, cell-other, crossing-ends}
use Rattle.line_tables.proofs.laws.cells_weigh_their_crossings.Goals as goal

pub returns : goal.returns
returns c = record { crossings = cell-crossing; others = cell-other; ends = crossing-ends }
