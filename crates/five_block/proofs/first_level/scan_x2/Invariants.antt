use Rattle.std.proofs.Common.{◌≤◌, ◌<◌, ℕ, length, slice_index}
use Rattle.five_block.specs.FirstLevel.{CoversX2, rank, rank_of, IsKnownCut, Improves}
use Rattle.five_block.proofs.first_level.scan_x2.Given as goal

abbrev pub invariant-loop-m : goal.invariant-loop-m
invariant-loop-m l =
    IsKnownCut l.q l.best × Improves l.initial.best l.best × CoversX2 l.q (slice_index l.q.xs.now l.i) l.m l.best × (l.i ≤ l.m)
    × ((n : ℕ) → l.m ≤ n → n < length l.q.xs.now → rank_of l.best.split ≤ rank (slice_index l.q.xs.now l.i) (slice_index l.q.xs.now n) 0 0)
    × (rank_of l.best.split ≤ rank (slice_index l.q.xs.now l.i) 4000 4000 4000)
