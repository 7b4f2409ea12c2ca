use Rattle.std.proofs.Common.{◌/◌, ◌<◌, arith, subst, sym, ◌∙◌}
use Rattle.weightings.specs.Weighting.{IsLeastWeight}
use Rattle.dual_search.specs.Rounds.{weights_at}
use Rattle.dual_search.specs.Dual.{IsBestSoFar}
use Rattle.dual_search.proofs.Bests.{bound-is, so_far-none, so_far-kept, so_far-first, so_far-better}
use Rattle.dual_search.proofs.duals.better.Goals as goal

pub returns-then-least-eq0-clause-best : goal.returns-then-least-eq0-clause-best
returns-then-least-eq0-clause-best c = λ s older e t q b.
    let I = c.args.inst in
    so_far-none I s older c.args.best (subst (λ m. IsLeastWeight I (weights_at I s) m) c.if-least-eq0.true q) b

pub returns-then-old-bound-clause-best : goal.returns-then-old-bound-clause-best
returns-then-old-bound-clause-best c = λ s older e t q b.
    let I = c.args.inst in
    let some : 0 < c.args.least = omega (arith, c.if-least-eq0.false) in
    so_far-kept I s older c.in-Some.old (c.args.rounds / c.args.least) (bound-is I s c.args.rounds c.args.least t q some) c.if-old-bound.true
    (subst (λ o. IsBestSoFar I older o) c.in-Some.is b)

pub returns-in_ok-cells-in-Some-clause-best : goal.returns-in_ok-cells-in-Some-clause-best
returns-in_ok-cells-in-Some-clause-best c = λ s older e t q b.
    let I = c.args.inst in
    let some : 0 < c.args.least = omega (arith, c.if-least-eq0.false) in
    so_far-better I s older c.in-Some.old (record { bound = c.args.rounds / c.args.least; cells = c.in_ok-cells-in-Some.cells })
    (bound-is I s c.args.rounds c.args.least t q some) c.if-old-bound.false (c.in_ok-cells-in-Some.ensures.items ∙ sym e)
    (subst (λ o. IsBestSoFar I older o) c.in-Some.is b)

pub returns-in_ok-cells-in-None-clause-best : goal.returns-in_ok-cells-in-None-clause-best
returns-in_ok-cells-in-None-clause-best c = λ s older e t q b.
    let I = c.args.inst in
    let some : 0 < c.args.least = omega (arith, c.if-least-eq0.false) in
    so_far-first I s older (record { bound = c.args.rounds / c.args.least; cells = c.in_ok-cells-in-None.cells })
    (bound-is I s c.args.rounds c.args.least t q some) (c.in_ok-cells-in-None.ensures.items ∙ sym e)
    (subst (λ o. IsBestSoFar I older o) c.in-None.is b)
