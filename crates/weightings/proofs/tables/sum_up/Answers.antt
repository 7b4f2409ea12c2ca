use Rattle.std.proofs.Common.{◌≤◌, ◌+◌, ◌%◌, ◌/◌, arith}
use Rattle.std.proofs.lemmas.Nat.{mod_below, div_below}
use Rattle.weightings.specs.Table.{cell_in}
use Rattle.weightings.proofs.SumSteps.{NextSum, next-sum, before, before-small, SummedTo-more}
use Rattle.weightings.proofs.tables.sum_up.Goals as goal

pub overflow_sub-row : goal.overflow_sub-row
overflow_sub-row c =
    let a = c.args in
    let s : NextSum a.x_side a.cells.now c.loop-n.n c.loop-n.cells = next-sum a.x_side a.cells.now c.loop-n.n c.loop-n.cells c.requires.some_x c.loop-n.invariant in
    omega (arith, s.row, c.sum_before.ensures, c.sum_before-in-loop-n.ensures)

pub overflow_add-cells-in-loop-n : goal.overflow_add-cells-in-loop-n
overflow_add-cells-in-loop-n c =
    let a = c.args in
    let x = c.loop-n.n % a.x_side in
    let y = c.loop-n.n / a.x_side in
    let some = c.requires.some_x in
    let s : NextSum a.x_side a.cells.now c.loop-n.n c.loop-n.cells = next-sum a.x_side a.cells.now c.loop-n.n c.loop-n.cells some c.loop-n.invariant in
    let p : x + 1 ≤ a.x_side = omega (arith, mod_below c.loop-n.n a.x_side (omega arith)) in
    let q : y + 1 ≤ a.y_side = omega (arith, div_below c.loop-n.n a.x_side a.y_side (omega arith) (omega (arith, c.requires.count, c.loop-n.invariant.count))) in
    let small : before (cell_in a.x_side a.cells.now) (x + 1) (y + 1) ≤ 4000000000 = before-small a.x_side a.y_side a.cells.now (x + 1) (y + 1) c.requires p q in
    omega (arith, s.value, small, c.sum_before.ensures, c.sum_before-in-loop-n.ensures, c.sum_before-below.ensures)

pub overflow_add-cells : goal.overflow_add-cells
overflow_add-cells c =
    let a = c.args in
    let x = c.loop-n.n % a.x_side in
    let y = c.loop-n.n / a.x_side in
    let some = c.requires.some_x in
    let s : NextSum a.x_side a.cells.now c.loop-n.n c.loop-n.cells = next-sum a.x_side a.cells.now c.loop-n.n c.loop-n.cells some c.loop-n.invariant in
    let p : x + 1 ≤ a.x_side = omega (arith, mod_below c.loop-n.n a.x_side (omega arith)) in
    let q : y + 1 ≤ a.y_side = omega (arith, div_below c.loop-n.n a.x_side a.y_side (omega arith) (omega (arith, c.requires.count, c.loop-n.invariant.count))) in
    let small : before (cell_in a.x_side a.cells.now) (x + 1) (y + 1) ≤ 4000000000 = before-small a.x_side a.y_side a.cells.now (x + 1) (y + 1) c.requires p q in
    omega (arith, s.value, small, c.sum_before.ensures, c.sum_before-in-loop-n.ensures, c.sum_before-below.ensures)

pub loop-n-preserved : goal.loop-n-preserved
loop-n-preserved c =
    let a = c.args in
    let s : NextSum a.x_side a.cells.now c.loop-n.n c.loop-n.cells = next-sum a.x_side a.cells.now c.loop-n.n c.loop-n.cells c.requires.some_x c.loop-n.invariant in
    SummedTo-more a.x_side a.cells.now c.loop-n.n _ c.loop-n.cells c.requires.some_x (omega (arith, c.loop-n-test.true, c.loop-n.invariant.count)) c.loop-n.invariant (omega (arith, s.value, c.sum_before.ensures, c.sum_before-in-loop-n.ensures, c.sum_before-below.ensures))
