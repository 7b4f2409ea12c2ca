use Rattle.std.proofs.Common.{ℕ, ◌<◌}
use Rattle.line_search.specs.Lines.{IsEnd}
use Rattle.line_search.proofs.lines.first_end.Given as goal

abbrev pub invariant-loop-end : goal.invariant-loop-end
invariant-loop-end l = (v : ℕ) → l.start < v → v < l.end → ¬ IsEnd l.starts.axis l.starts.inst v
