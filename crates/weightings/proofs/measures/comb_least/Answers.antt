use Rattle.weightings.specs.Line.{IsLeastInLine}
use Rattle.plan_geometry.specs.Layout.{x_extent, y_extent}
use Rattle.weightings.proofs.WeightSteps.{IsLeastOfWay-comb}
use Rattle.weightings.proofs.measures.comb_least.Goals as goal

pub returns : goal.returns
returns c =
    let a = c.args in
    let x : IsLeastInLine a.inst.l_side (x_extent a.inst a.way) a.p a.a c.least_in_line.result = rw c.extent_along-across.ensures.extent at c.least_in_line.ensures.value in
    let y : IsLeastInLine a.inst.w_side (y_extent a.inst a.way) a.r a.b c.least_in_line-2.result = rw c.extent_along-along.ensures.extent at c.least_in_line-2.ensures.value in
    IsLeastOfWay-comb a.inst a.way a.p a.a a.r a.b c.least_in_line.result c.least_in_line-2.result x y
