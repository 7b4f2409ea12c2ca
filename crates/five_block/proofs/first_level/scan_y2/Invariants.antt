use Rattle.std.proofs.Common.{◌≤◌, ◌<◌, ℕ, length, slice_index}
use Rattle.five_block.specs.FirstLevel.{CoversY2, rank, rank_of, IsKnownCut, Improves}
use Rattle.five_block.proofs.first_level.scan_y2.Given as goal

abbrev pub invariant-loop-k : goal.invariant-loop-k
invariant-loop-k l =
    IsKnownCut l.q l.best × Improves l.initial.best l.best × CoversY2 l.q l.x1 l.x2 (slice_index l.q.ys.now l.j) l.k l.best × (l.j ≤ l.k)
    × ((n : ℕ) → l.k ≤ n → n < length l.q.ys.now → rank_of l.best.split ≤ rank l.x1 l.x2 (slice_index l.q.ys.now l.j) (slice_index l.q.ys.now n))
    × (rank_of l.best.split ≤ rank l.x1 l.x2 (slice_index l.q.ys.now l.j) 4000)
