use Rattle.std.proofs.Common.{◌≤◌, ◌⊎◌, slice_index}
use Rattle.g4_patterns.specs.Scan.{CoversX2, Reached}
use Rattle.g4_patterns.proofs.scanning.scan_x2.Given as goal

abbrev pub invariant-loop-m : goal.invariant-loop-m
invariant-loop-m l =
    (l.initial.best.value ≤ l.best.value) × ((l.bound ≤ l.best.value) ⊎ CoversX2 l.q (slice_index l.q.xs.now l.i) l.m l.best.value) × Reached l.q l.best × (l.i ≤ l.m)
