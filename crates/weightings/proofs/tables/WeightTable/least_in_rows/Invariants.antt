use Rattle.std.proofs.Common.{◌≡◌, ◌<◌}
use Rattle.weightings.specs.Table.{cell_of}
use Rattle.weightings.specs.Sums.{IsLeastBlock}
use Rattle.weightings.proofs.tables.WeightTable.least_in_rows.Given as goal

abbrev pub invariant-loop-x : goal.invariant-loop-x
invariant-loop-x l = IsLeastBlock (cell_of l.self) l.a l.b (λ u v. (u < l.x) × (v ≡ l.y)) l.least
