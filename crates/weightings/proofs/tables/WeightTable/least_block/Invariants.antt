use Rattle.std.proofs.Common.{◌+◌, ◌<◌, ◌≤◌}
use Rattle.weightings.specs.Table.{cell_of}
use Rattle.weightings.specs.Sums.{IsLeastBlock}
use Rattle.weightings.proofs.tables.WeightTable.least_block.Given as goal

abbrev pub invariant-loop-y : goal.invariant-loop-y
invariant-loop-y l = IsLeastBlock (cell_of l.self) l.a l.b (λ u v. (u + l.a ≤ l.self.x_side) × (v < l.y)) l.least
