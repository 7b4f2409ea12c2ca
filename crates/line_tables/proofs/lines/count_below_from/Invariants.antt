use Rattle.std.proofs.Common.{◌≤◌}
use Rattle.line_tables.specs.Laws.{lines_below}
use Rattle.line_tables.proofs.lines.count_below_from.Given as goal

abbrev pub invariant-loop-k : goal.invariant-loop-k
invariant-loop-k l = l.k ≤ lines_below l.lines l.place
