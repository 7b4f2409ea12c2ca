use Rattle.std.proofs.Common.{inl, inr, arith}
use Rattle.std.proofs.lemmas.Bool.{cases_lt}
use Rattle.line_search.proofs.StartSteps.{end-within}
use Rattle.line_search.proofs.lines.first_end.Goals as goal

pub returns-then-is_end-clause-some : goal.returns-then-is_end-clause-some
returns-then-is_end-clause-some c = record {
  behind = omega arith;
  ends = c.is_end.ensures.0 c.if-is_end.true;
  first = λ v l h. elim (cases_lt v c.loop-end.end) [
    | inl b ↦ absurd (c.loop-end.invariant v l b h)
    | inr b ↦ b
  ];
}

pub returns-clause-none : goal.returns-clause-none
returns-clause-none c end h =
    c.loop-end.invariant end h.behind (omega (arith, end-within c.args.starts.now.axis c.args.starts.now.inst end h.ends, c.side_along-end-end.ensures.side)) h.ends
