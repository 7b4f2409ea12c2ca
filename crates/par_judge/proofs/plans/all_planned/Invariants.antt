use Rattle.std.proofs.Common.{take, length}
use Rattle.par_judge.specs.Planned.{ArePlansOf}
use Rattle.par_judge.proofs.plans.all_planned.Given as goal

abbrev pub invariant-loop-answer : goal.invariant-loop-answer
invariant-loop-answer l = ArePlansOf (take (length l.yielded) l.group) l.plans.items
