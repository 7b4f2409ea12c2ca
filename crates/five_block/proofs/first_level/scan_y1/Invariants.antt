use Rattle.std.proofs.Common.{◌≤◌, ◌<◌, ℕ, length, slice_index}
use Rattle.five_block.specs.FirstLevel.{CoversY1, rank, rank_of, IsKnownCut, Improves}
use Rattle.five_block.proofs.first_level.scan_y1.Given as goal

abbrev pub invariant-loop-j : goal.invariant-loop-j
invariant-loop-j l =
    IsKnownCut l.q l.best × Improves l.initial.best l.best × CoversY1 l.q l.x1 l.x2 l.j l.best
    × ((n : ℕ) → l.j ≤ n → n < length l.q.ys.now → rank_of l.best.split ≤ rank l.x1 l.x2 (slice_index l.q.ys.now n) 0)
    × (rank_of l.best.split ≤ rank l.x1 l.x2 4000 4000)
