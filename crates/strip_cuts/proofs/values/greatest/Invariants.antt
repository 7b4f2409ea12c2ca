use Rattle.std.proofs.Common.{◌≤◌, ◌*◌}
use Rattle.strip_cuts.proofs.BestValues.{Best}
use Rattle.strip_cuts.proofs.values.greatest.Given as goal

abbrev pub invariant-loop-i : goal.invariant-loop-i
invariant-loop-i l = record {
  best : Best l.fn.axis l.inst l.a l.b l.best l.i;
  small : l.best ≤ 4294967296 * 8000;
}
