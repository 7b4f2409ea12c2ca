use Rattle.line_tables.specs.Sums.{AreSums}
use Rattle.line_tables.proofs.sums.sums_of.Given as goal

abbrev pub invariant-loop-n : goal.invariant-loop-n
invariant-loop-n l =
    AreSums (record { columns = l.columns; rows = l.rows; quarter = l.quarter }) l.n l.sums.items
