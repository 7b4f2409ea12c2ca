use Rattle.std.proofs.Common.{◌≤◌, ◌<◌, ℕ, length, slice_index}
use Rattle.five_block.specs.FirstLevel.{CoversX1, rank, rank_of, IsKnownCut}
use Rattle.five_block.proofs.first_level.scan_x1.Given as goal

abbrev pub invariant-loop-i : goal.invariant-loop-i
invariant-loop-i l =
    IsKnownCut l.q l.best × CoversX1 l.q l.i l.best
    × ((n : ℕ) → l.i ≤ n → n < length l.q.xs.now → rank_of l.best.split ≤ rank (slice_index l.q.xs.now n) 0 0 0)
