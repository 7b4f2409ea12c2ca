use Rattle.weightings.proofs.SumSteps.{SummedTo}
use Rattle.weightings.proofs.tables.sum_up.Given as goal

abbrev pub invariant-loop-n : goal.invariant-loop-n
invariant-loop-n l = SummedTo l.x_side l.fn.cells l.n l.cells
