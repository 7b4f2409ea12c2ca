use Rattle.std.proofs.Common.{◌≤◌, ◌⊎◌}
use Rattle.g4_patterns.specs.Scan.{CoversX1, Reached}
use Rattle.g4_patterns.proofs.scanning.scan_x1.Given as goal

abbrev pub invariant-loop-i : goal.invariant-loop-i
invariant-loop-i l =
    (l.initial.best.value ≤ l.best.value) × ((l.bound ≤ l.best.value) ⊎ CoversX1 l.q l.i l.best.value) × Reached l.q l.best
