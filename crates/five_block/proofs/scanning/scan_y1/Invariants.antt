use Rattle.std.proofs.Common.{◌≤◌}
use Rattle.five_block.specs.Scan.{Reached, CoversY1}
use Rattle.five_block.proofs.scanning.scan_y1.Given as goal

abbrev pub invariant-loop-j : goal.invariant-loop-j
invariant-loop-j l =
    (l.initial.best.value ≤ l.best.value) × CoversY1 l.q l.x1 l.x2 l.j l.best.value × Reached l.q l.best
