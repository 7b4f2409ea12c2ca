use Rattle.std.proofs.Common.{◌+◌, ◌<◌, ◌≤◌, length, get_or}
use Rattle.plan_geometry.specs.Layout.{x_extent}
use Rattle.line_tables.specs.Lines.{weight_at}
use Rattle.line_tables.specs.Least.{IsLeastOf}
use Rattle.line_tables.specs.Laws.{lines_below}
use Rattle.line_tables.proofs.LeastSteps.{IsInRow}
use Rattle.line_tables.proofs.tables.LineTable.least_from_row.Given as goal

-- the least so far, and no more columns counted than stand before the end of the next case
abbrev pub invariant-loop-k : goal.invariant-loop-k
invariant-loop-k l = record {
  least : IsLeastOf l.inst (weight_at l.self) (IsInRow l.self l.inst l.fn.way l.y l.k) l.least;
  right : l.k < length l.self.columns → l.right ≤ lines_below l.self.columns (get_or l.self.columns l.k 0 + 1 + x_extent l.inst l.fn.way);
}
