use Rattle.std.proofs.Common.{◌≤◌, All}
use Rattle.interlocking_layers.proofs.cuts.cuts.Given as goal

abbrev pub invariant-loop-place : goal.invariant-loop-place
invariant-loop-place l = All (λ x. x ≤ l.side) l.cuts.items
