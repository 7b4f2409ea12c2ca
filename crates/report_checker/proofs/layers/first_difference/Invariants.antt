use Rattle.report_checker.proofs.Lists.{SameBelow}
use Rattle.report_checker.proofs.layers.first_difference.Given as goal

abbrev pub invariant-loop-place : goal.invariant-loop-place
invariant-loop-place l = SameBelow l.given l.layers l.variants l.place
