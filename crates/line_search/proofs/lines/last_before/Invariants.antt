use Rattle.std.proofs.Common.{ℕ, ◌+◌, ◌<◌}
use Rattle.line_search.specs.Lines.{IsNormalFromEnd}
use Rattle.line_search.proofs.lines.last_before.Given as goal

abbrev pub invariant-loop-gap : goal.invariant-loop-gap
invariant-loop-gap l = (v : ℕ) → v < l.end → l.end < v + l.gap → ¬ IsNormalFromEnd l.starts.axis l.starts.inst v
