use Rattle.std.proofs.Common.{◌≤◌, ◌⊎◌, ◌≡◌, length, slice_index}
use Rattle.five_block.specs.Scan.{Reached, CoversX2}
use Rattle.five_block.proofs.scanning.scan_x2.Given as goal

abbrev pub invariant-loop-m : goal.invariant-loop-m
invariant-loop-m l =
    (l.initial.best.value ≤ l.best.value) × ((l.bound ≤ l.best.value) ⊎ CoversX2 l.q (slice_index l.q.xs.now l.i) l.m l.best.value) × Reached l.q l.best × (l.i ≤ l.m) × (length l.second ≡ length l.q.ys.now)
