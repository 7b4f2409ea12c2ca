use Rattle.std.proofs.Common.{◌*◌, ◌≤◌}
use Rattle.case_design.proofs.SizeSteps.{IsCounted}
use Rattle.case_design.proofs.sizes.count_sizes.Given as goal

abbrev pub invariant-loop-long : goal.invariant-loop-long
invariant-loop-long l = record { counted : IsCounted l.brief l.long l.count; few : l.count ≤ 4001 * l.long }
