use Rattle.std.proofs.Common.{◌≤◌}
use Rattle.g4_patterns.specs.Scan.{CoversY, Reached, IsTop}
use Rattle.g4_patterns.proofs.scanning.scan_y.Given as goal

abbrev pub invariant-loop-k : goal.invariant-loop-k
invariant-loop-k l =
    (l.initial.best.value ≤ l.best.value) × CoversY l.q l.x1 l.x2 l.k l.best.value × Reached l.q l.best × IsTop l.q l.x1 l.x2 l.k l.top
