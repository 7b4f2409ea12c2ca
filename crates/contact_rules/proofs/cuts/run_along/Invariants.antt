use Rattle.std.proofs.Common.{◌-◌, ◌≡◌, ◌<◌, ◌≤◌, ◌⊎◌}
use Rattle.contact_rules.specs.Real.{real_side, real_finish}
use Rattle.contact_rules.specs.Cut.{SomeCase}
use Rattle.contact_rules.proofs.RunSteps.{IsGreatestBefore}
use Rattle.contact_rules.proofs.cuts.run_along.Given as goal

abbrev pub invariant-loop-line : goal.invariant-loop-line
invariant-loop-line l = record {
  greatest : IsGreatestBefore l.axis l.inst l.gap l.lower l.upper l.line l.most;
  few : l.most ≤ 4000;
  positive : 0 < l.line;
  within : l.line ≤ real_side l.axis l.inst l.gap;
  ends : (l.line ≡ real_side l.axis l.inst l.gap) ⊎ SomeCase (λ s. real_finish l.axis l.inst l.gap s ≡ l.line) l.lower l.upper;
}

abbrev pub decreases-loop-line : goal.decreases-loop-line
decreases-loop-line l = l.side - l.line
