use Rattle.std.proofs.Common.{Some, subst, sym}
use Rattle.dual_search.proofs.Findings.{some-weaker}
use Rattle.weightings.specs.Table.{cell_in, cell_of}
use Rattle.weightings.specs.Weighting.{IsWeightBound}
use Rattle.dual_search.specs.Dual.{IsBestSoFar}
use Rattle.dual_search.proofs.duals.dual.Goals as goal

pub returns-in-Some-clause-bound : goal.returns-in-Some-clause-bound
returns-in-Some-clause-bound c =
    let I = c.args.inst in
    let played = c.in_ok-best.ensures in
    let n = c.in-Some.best.bound in
    let best : IsBestSoFar I played.stages (Some c.in-Some.best) = subst (λ o. IsBestSoFar I played.stages o) c.in-Some.is played.is_best in
    let held : IsWeightBound I (cell_in I.l_side c.in-Some.best.cells.items) n =
    subst (λ ws. IsWeightBound I (cell_in I.l_side ws) n) (sym best.2) best.1.is_bound in
    some-weaker c.new.result _ _ (λ t e. (n, subst (λ u. IsWeightBound I (cell_of u) n) (sym e) held)) c.new.ensures.value
