use Rattle.std.proofs.Common.{◌≤◌, slice_index}
use Rattle.five_block.specs.Scan.{Reached, CoversY2}
use Rattle.five_block.proofs.scanning.scan_y2.Given as goal

abbrev pub invariant-loop-k : goal.invariant-loop-k
invariant-loop-k l =
    (l.initial.best.value ≤ l.best.value) × CoversY2 l.q l.x1 l.x2 (slice_index l.q.ys.now l.j) l.k l.best.value × Reached l.q l.best × (l.j ≤ l.k)
