use Rattle.std.proofs.Common.{◌≡◌, ℕ, ◌+◌, ◌<◌, ◌≤◌, slice_index}
use Rattle.dual_search.proofs.raising.raise_row.Given as goal

abbrev pub invariant-loop-k : goal.invariant-loop-k
invariant-loop-k l = record {
  more : (i : ℕ) → l.from ≤ i → i < l.k → slice_index l.list i ≡ slice_index l.initial.list i + 1;
  before : (i : ℕ) → i < l.from → slice_index l.list i ≡ slice_index l.initial.list i;
  after : (i : ℕ) → l.k ≤ i → slice_index l.list i ≡ slice_index l.initial.list i;
}
