use Rattle.std.proofs.Common.{take}
use Rattle.std.specs.List.{All}
use Rattle.plan_soundness.specs.Sound.{IsListedLayer}
use Rattle.report_checker.proofs.layers.first_layer.Given as goal

abbrev pub invariant-loop-place : goal.invariant-loop-place
invariant-loop-place l = All (IsListedLayer l.order l.count) (take l.place l.layers)
