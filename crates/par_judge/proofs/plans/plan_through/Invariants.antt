use Rattle.std.proofs.Common.{◌-◌, ◌≤◌, length, take}
use Rattle.par_judge.specs.Planned.{ArePlansOf}
use Rattle.par_judge.proofs.plans.plan_through.Given as goal

abbrev pub invariant-loop-before : goal.invariant-loop-before
invariant-loop-before g l = record {
  within : l.before ≤ length l.orders;
  made : ArePlansOf (take l.before l.orders) l.plans.items;
}

abbrev pub decreases-loop-before : goal.decreases-loop-before
decreases-loop-before g l = length l.orders - l.before
