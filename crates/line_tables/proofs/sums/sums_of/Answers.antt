use Rattle.line_tables.proofs.SumSteps.{AreSums-none, AreSums-more}
use Rattle.line_tables.proofs.sums.sums_of.Goals as goal

pub loop-n-init : goal.loop-n-init
loop-n-init c = rw c.in_ok-sums.ensures.items (AreSums-none _)

pub loop-n-preserved : goal.loop-n-preserved
loop-n-preserved c =
    rw c.in_ok-push.ensures.items (AreSums-more _ _ _ _ c.loop-n.invariant c.next_sum-sum.ensures)
