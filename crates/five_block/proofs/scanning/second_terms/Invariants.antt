use Rattle.std.proofs.Common.{◌≤◌, ◌≡◌, ◌<◌, ℕ, length, slice_index}
use Rattle.block_tables.specs.Tables.{second_term}
use Rattle.five_block.proofs.scanning.second_terms.Given as goal

abbrev pub invariant-loop-k : goal.invariant-loop-k
invariant-loop-k l =
    (length l.second ≡ length l.q.ys.now) × ((n : ℕ) → n < l.k → slice_index l.second n ≡ second_term l.q l.x1 l.x2 (slice_index l.q.ys.now n)) × ((n : ℕ) → n < l.k → slice_index l.second n ≤ 32000000)
