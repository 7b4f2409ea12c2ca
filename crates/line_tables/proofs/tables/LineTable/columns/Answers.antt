use Rattle.line_tables.proofs.LineSteps.{lines-few}
use Rattle.line_tables.proofs.tables.LineTable.columns.Goals as goal

pub returns-clause-few : goal.returns-clause-few
returns-clause-few c = rw c.as_slice.ensures.value (lines-few _ c.self.invariant.table.columns)
