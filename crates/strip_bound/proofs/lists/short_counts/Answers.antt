use Rattle.std.proofs.Common.{◌+◌, ◌/◌, ◌≤◌, arith, subst}
use Rattle.plan_geometry.specs.Layout.{side}
use Rattle.strip_bound.proofs.ListSteps.{shorts-are}
use Rattle.strip_bound.proofs.lists.short_counts.Goals as goal

pub returns-clause-are_shorts : goal.returns-clause-are_shorts
returns-clause-are_shorts c =
    let a = c.args in
    let enough : side a.axis a.inst / a.inst.long + 1 ≤ c.loop-i.i =
    subst (λ n. n / a.inst.long + 1 ≤ c.loop-i.i) c.side_along-side.ensures.side c.loop-i-test.false in
    shorts-are a.axis a.inst c.loop-i.found.items (omega (arith, enough, c.loop-i.invariant.count))
    (λ k lt. c.loop-i.invariant.each k (omega (arith, lt, c.loop-i.invariant.count)))
