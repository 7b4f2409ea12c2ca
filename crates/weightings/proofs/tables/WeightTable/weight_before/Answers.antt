use Rattle.std.proofs.Common.{◌≡◌, ◌≤◌, ◌∙◌, ap, arith}
use Rattle.plan_geometry.specs.Weight.{block_weight}
use Rattle.weightings.specs.Table.{CellTable, cell_of, cell_in}
use Rattle.weightings.specs.Sums.{sum_at, cells_from}
use Rattle.weightings.proofs.SumSteps.{before, before-small, sum_at-before}
use Rattle.weightings.proofs.tables.WeightTable.weight_before.Goals as goal

read : (c : goal.After-sum_before) → c.sum_before.result ≡ before (cell_in c.self.inside.x_side (cells_from c.self.inside.x_side c.self.inside.y_side c.self.inside.sums.items)) c.args.x c.args.y
read c =
    let a = c.args in
    let s = c.self.inside in
    let ex = ap (λ (t : CellTable). t.x_side) c.self.view_is in
    let ey = ap (λ (t : CellTable). t.y_side) c.self.view_is in
    let p : a.x ≤ s.x_side = omega arith in
    let q : a.y ≤ s.y_side = omega arith in
    c.sum_before.ensures ∙ ap (λ xs. sum_at s.x_side xs a.x a.y) c.as_slice.ensures.value ∙ sum_at-before s.x_side s.y_side (cells_from s.x_side s.y_side s.sums.items) s.sums.items a.x a.y c.self.invariant.summed p q

pub returns-clause-value : goal.returns-clause-value
returns-clause-value c = read c ∙ ap (λ (t : CellTable). block_weight (cell_of t) 0 0 c.args.x c.args.y) c.self.view_is

pub returns-clause-small : goal.returns-clause-small
returns-clause-small c =
    let a = c.args in
    let s = c.self.inside in
    let ex = ap (λ (t : CellTable). t.x_side) c.self.view_is in
    let ey = ap (λ (t : CellTable). t.y_side) c.self.view_is in
    let p : a.x ≤ s.x_side = omega arith in
    let q : a.y ≤ s.y_side = omega arith in
    omega (arith, read c, before-small s.x_side s.y_side (cells_from s.x_side s.y_side s.sums.items) a.x a.y c.self.invariant.table p q)
