use Rattle.std.proofs.Common.{ℕ, ◌≡◌, ◌<◌, length}
use Rattle.std.specs.Prelude.{slice_index_or}
use Rattle.strip_bound.proofs.ListSteps.{IsMost}
use Rattle.strip_bound.proofs.lists.short_counts.Given as goal

abbrev pub invariant-loop-i : goal.invariant-loop-i
invariant-loop-i l = record {
  each : (k : ℕ) → k < l.i → IsMost l.fn.axis l.inst k (slice_index_or l.found.items k 0);
  count : length l.found.items ≡ l.i;
}
