use Rattle.line_tables.specs.Lines.{weight_at}
use Rattle.line_tables.specs.Least.{IsLeastOf}
use Rattle.line_tables.proofs.LeastSteps.{IsUpTo}
use Rattle.line_tables.proofs.tables.LineTable.least_of_way.Given as goal

abbrev pub invariant-loop-row : goal.invariant-loop-row
invariant-loop-row l = IsLeastOf l.inst (weight_at l.self) (IsUpTo l.self l.inst l.way l.row-index) l.least
