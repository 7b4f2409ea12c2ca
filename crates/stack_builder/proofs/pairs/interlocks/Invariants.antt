use Rattle.std.proofs.Common.{ℕ, ◌≤◌}
use Rattle.stack_builder.specs.Pairs.{GoTogether}
use Rattle.stack_builder.proofs.pairs.interlocks.Given as goal

abbrev pub invariant-loop-k : goal.invariant-loop-k
invariant-loop-k l = (form : ℕ) → 1 ≤ form → form ≤ l.k → GoTogether l.inst l.gap l.rules l.variants 1 form → ⊥
