use Rattle.std.proofs.Common.{ℕ, ◌<◌, ◌≤◌, slice_index}
use Rattle.dual_search.proofs.extremes.first_least.Given as goal

abbrev pub invariant-loop-k : goal.invariant-loop-k
invariant-loop-k l = record {
  within : l.place < l.k;
  least : (i : ℕ) → i < l.k → slice_index l.list l.place ≤ slice_index l.list i;
  first : (i : ℕ) → i < l.place → slice_index l.list l.place < slice_index l.list i;
}
