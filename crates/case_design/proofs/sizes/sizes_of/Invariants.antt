use Rattle.case_design.specs.Sizes.{Lists}
use Rattle.case_design.proofs.SizeSteps.{IsSizeUpTo}
use Rattle.case_design.proofs.sizes.sizes_of.Given as goal

abbrev pub invariant-loop-long : goal.invariant-loop-long
invariant-loop-long l = Lists (IsSizeUpTo l.brief l.long 0) l.sizes.items
