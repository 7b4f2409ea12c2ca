use Rattle.std.proofs.Common.{◌≤◌, ◌⊎◌, ◌≡◌, length}
use Rattle.five_block.specs.Scan.{Reached, CoversX1}
use Rattle.five_block.proofs.scanning.scan_x1.Given as goal

abbrev pub invariant-loop-i : goal.invariant-loop-i
invariant-loop-i l =
    (l.initial.best.value ≤ l.best.value) × ((l.bound ≤ l.best.value) ⊎ CoversX1 l.q l.i l.best.value) × Reached l.q l.best × (length l.second ≡ length l.q.ys.now)
