use Rattle.std.proofs.Common.{arith}
use Rattle.weightings.specs.Table.{cell_of}
use Rattle.weightings.proofs.SumSteps.{Corners, corners}
use Rattle.weightings.proofs.tables.WeightTable.weight_from.Goals as goal

pub overflow_sub-right : goal.overflow_sub-right
overflow_sub-right c =
    let a = c.args in
    let k : Corners (cell_of a.self.now) a.x a.y a.a a.b = corners (cell_of a.self.now) a.x a.y a.a a.b in
    omega (arith, k.upper, c.weight_before.ensures.value, c.weight_before-2.ensures.value)

pub overflow_sub-under : goal.overflow_sub-under
overflow_sub-under c =
    let a = c.args in
    let k : Corners (cell_of a.self.now) a.x a.y a.a a.b = corners (cell_of a.self.now) a.x a.y a.a a.b in
    omega (arith, k.lower, c.weight_before-3.ensures.value, c.weight_before-4.ensures.value)

pub overflow_sub-result : goal.overflow_sub-result
overflow_sub-result c =
    let a = c.args in
    let k : Corners (cell_of a.self.now) a.x a.y a.a a.b = corners (cell_of a.self.now) a.x a.y a.a a.b in
    omega (arith, k.upper, k.lower, k.both, c.weight_before.ensures.value, c.weight_before-2.ensures.value, c.weight_before-3.ensures.value, c.weight_before-4.ensures.value)

pub returns : goal.returns
returns c =
    let a = c.args in
    let k : Corners (cell_of a.self.now) a.x a.y a.a a.b = corners (cell_of a.self.now) a.x a.y a.a a.b in
    record { value = omega (arith, k.upper, k.lower, k.both, c.weight_before.ensures.value, c.weight_before-2.ensures.value, c.weight_before-3.ensures.value, c.weight_before-4.ensures.value) }
