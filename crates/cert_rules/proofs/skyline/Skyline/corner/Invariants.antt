use Rattle.std.proofs.Common.{◌≡◌, ◌+◌, ◌-◌, length}
use Rattle.cert_rules.specs.Path.{state}
use Rattle.cert_rules.specs.Runs.{HasRuns, Scan}
use Rattle.cert_rules.proofs.skyline.Skyline.corner.Given as goal

abbrev pub invariant-loop-c : goal.invariant-loop-c
invariant-loop-c l = record {
  columns : l.columns ≡ l.self.inst.l_side;
  wide : length l.runs ≡ l.columns + 1;
  scan : Scan (state l.self).heights l.best.x l.best.y l.best.run l.c;
  ahead : HasRuns l.runs (state l.self).heights l.c l.columns;
}

abbrev pub decreases-loop-c : goal.decreases-loop-c
decreases-loop-c l = l.columns - l.c
