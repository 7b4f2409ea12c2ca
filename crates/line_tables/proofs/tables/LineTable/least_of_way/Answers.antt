use Rattle.std.proofs.Common.{◌≡◌, ◌+◌, ◌<◌, ◌≤◌, length, get_or, sym, ap, arith}
use Rattle.plan_geometry.specs.Layout.{y_extent}
use Rattle.line_tables.specs.Lines.{weight_at}
use Rattle.line_tables.specs.Least.{IsLeastOf, IsInsideSo}
use Rattle.line_tables.proofs.LeastSteps.{up_to-first, up_to-next, up_to-skip, up_to-all}
use Rattle.line_tables.proofs.tables.LineTable.least_of_way.Goals as goal
use Rattle.line_tables.proofs.tables.LineTable.least_of_way.Goals.{then-y-along, else-y-along}

pub loop-row-init : goal.loop-row-init
loop-row-init c =
    let a = c.args in
    up_to-first a.self.now a.inst a.way c.least_from_row-least.result c.rows-row-items.ensures.table c.requires.fits.1 c.least_from_row-least.ensures

pub loop-row-preserved : goal.loop-row-preserved
loop-row-preserved c =
    let a = c.args in
    let t = a.self.now in
    let k = c.loop-row.row-index in
    let e = c.rows-row-items.ensures.value in
    let place : k < length t.rows = rw e at c.loop-row-test.true in
    let here : get_or c.rows-row-items.result.now k 0 ≡ get_or t.rows k 0 = ap (λ xs. get_or xs k 0) e in
    elim c.if-y-along.branch [
      | then-y-along w ↦
          let fits : get_or t.rows k 0 + 1 + y_extent a.inst a.way ≤ a.inst.w_side = omega (arith, here, w.if-y-along.true, c.extent_along-along.ensures.extent) in
          let next : IsLeastOf a.inst (weight_at t) (λ s. IsInsideSo a.inst a.way s × (s.y ≡ get_or t.rows k 0 + 1)) w.least_from_row.result = rw e at w.least_from_row.ensures in
          rw (w.least-is, w.min-least.ensures) (up_to-next t a.inst a.way k c.loop-row.least w.least_from_row.result c.rows-row-items.ensures.table place fits c.loop-row.invariant next)
      | else-y-along w ↦
          let past : a.inst.w_side < get_or t.rows k 0 + 1 + y_extent a.inst a.way = omega (arith, here, w.if-y-along.false, c.extent_along-along.ensures.extent) in
          rw w.least-is (up_to-skip t a.inst a.way k c.loop-row.least c.rows-row-items.ensures.table past c.loop-row.invariant)
    ]

pub returns : goal.returns
returns c =
    let a = c.args in
    let t = a.self.now in
    let end : c.loop-row.row-index ≡ length t.rows = rw (sym c.rows-row-items.ensures.value) (omega (arith, c.loop-row-test.false, c.loop-row.auto.row-index-end)) in
    up_to-all t a.inst a.way c.loop-row.least c.rows-row-items.ensures.table (rw end at c.loop-row.invariant)
