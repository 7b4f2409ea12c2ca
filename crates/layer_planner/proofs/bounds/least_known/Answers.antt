use Rattle.std.proofs.Common.{arith}
use Rattle.layer_planner.proofs.KnownLemmas.{grid-strip}
use Rattle.layer_planner.proofs.bounds.least_known.Goals as goal

pub returns-then-known-area_bound-clause-strip : goal.returns-then-known-area_bound-clause-strip
returns-then-known-area_bound-clause-strip c =
    grid-strip c.args.reduced c.in_ok-known.known.bound (omega (arith, c.if-known-grid.true, c.uniform_of-grid.ensures.value))

pub returns-clause-family : goal.returns-clause-family
returns-clause-family c = λ g n m w.
    let f = c.in_ok-known.ensures.family g n m w in
    omega (arith, f, c.in_ok-known-2.ensures.less, c.or_area.ensures.less)

pub returns-clause-strip : goal.returns-clause-strip
returns-clause-strip c = λ n h.
    let f = c.in_ok-known-2.ensures.strip n h in
    omega (arith, f, c.or_area.ensures.less)
