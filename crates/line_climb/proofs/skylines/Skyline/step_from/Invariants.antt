-- The steps that were tried changed nothing.
use Rattle.std.proofs.Common.{◌≡◌}
use Rattle.line_climb.proofs.skylines.Skyline.step_from.Given as goal

abbrev pub invariant-loop-k : goal.invariant-loop-k
invariant-loop-k l = l.self ≡ l.initial.self
