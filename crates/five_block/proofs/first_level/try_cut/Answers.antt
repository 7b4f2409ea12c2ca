use Rattle.std.proofs.Common.{arith, inl, inr}
use Rattle.std.proofs.lemmas.Bool.{cases_lt}
use Rattle.five_block.specs.FirstLevel.{first_sum}
use Rattle.five_block.proofs.first_level.try_cut.Goals as goal

pub returns-else-value-best-clause-beats : goal.returns-else-value-best-clause-beats
returns-else-value-best-clause-beats c =
    elim (cases_lt (first_sum c.args.q.inst c.args.x1 c.args.x2 c.args.y1 c.args.y2) c.args.best.value) [
      | inl w ↦ inl w
      | inr w ↦ inr (omega (arith, c.if-value-best.false, c.requires.first, c.uniform_of.ensures.value, c.uniform_of-2.ensures.value, c.uniform_of-3.ensures.value), c.requires.later)
    ]
