use Rattle.std.proofs.Common.{ℕ, ◌+◌, ◌*◌, ◌<◌, ◌≤◌}
use Rattle.partitions.specs.Partitions.{IsFeasible}
use Rattle.minimum_size.proofs.LeastSides.{Reached}
use Rattle.minimum_size.proofs.least_sides.least_side.Given as goal

abbrev pub invariant-loop-i : goal.invariant-loop-i
invariant-loop-i l = record {
  covers : (i : ℕ) → i < l.i → (j : ℕ) → IsFeasible l.side l.long l.short i j → i * l.new_long + j * l.new_short ≤ l.least;
  reached : Reached l.side l.long l.short l.new_long l.new_short l.least;
}
