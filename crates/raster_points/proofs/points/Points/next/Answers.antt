use Rattle.std.proofs.Common.{inl, inr, refl, arith}
use Rattle.std.proofs.lemmas.Bool.{cases_lt}
use Rattle.raster_points.proofs.points.Points.next.Goals as goal

pub returns-then-is_normal-clause-next : goal.returns-then-is_normal-clause-next
returns-then-is_normal-clause-next c = inl (record {
  normal = c.if-is_normal.ensures.0 refl;
  above = omega arith;
  least = λ other n h. elim (cases_lt other c.loop-above.above) [
    | inl lt ↦ absurd (c.loop-above.invariant other lt h n)
    | inr ge ↦ ge
  ];
})

pub returns-clause-next : goal.returns-clause-next
returns-clause-next c = inr (
  λ other n. elim (cases_lt c.args.s other) [
    | inl lt ↦ absurd (c.loop-above.invariant other (let w = n.within in let e = c.side-side.ensures.value in omega (arith, w, e)) lt n)
    | inr ge ↦ ge
  ],
  c.side-side.ensures.value,
)
