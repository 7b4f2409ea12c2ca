use Rattle.std.proofs.Common.{◌≡◌, ◌+◌, ◌<◌, ◌≤◌, length, get_or, sym, ap, ◌∙◌, arith}
use Rattle.plan_geometry.specs.Layout.{x_extent, y_extent}
use Rattle.plan_geometry.specs.Weight.{block_weight}
use Rattle.line_tables.specs.Lines.{weight_at}
use Rattle.line_tables.specs.Laws.{lines_below}
use Rattle.line_tables.proofs.LineSteps.{lines_below-mono, lines_below-read, lines_below-zero, lines_below-behind, lines_below-next}
use Rattle.line_tables.proofs.BlockSteps.{crossings-block}
use Rattle.line_tables.proofs.LeastSteps.{in_row-first, in_row-next, in_row-skip, in_row-all}
use Rattle.line_tables.proofs.tables.LineTable.least_from_row.Goals as goal
use Rattle.line_tables.proofs.tables.LineTable.least_from_row.Goals.{then-end-inst, else-end-inst}

pub crossings_weight-least-requires-clause-rows : goal.crossings_weight-least-requires-clause-rows
crossings_weight-least-requires-clause-rows c =
    rw (c.count_below-low.ensures.value, c.count_below-high.ensures.value, c.rows-rows.ensures.value) (lines_below-mono c.args.self.now.rows _ _ c.rows-rows.ensures.table.rows.rising (omega (arith, c.from.ensures, c.from-2.ensures)))

pub crossings_weight-requires-clause-rows : goal.crossings_weight-requires-clause-rows
crossings_weight-requires-clause-rows c =
    rw (c.count_below-low.ensures.value, c.count_below-high.ensures.value, c.rows-rows.ensures.value) (lines_below-mono c.args.self.now.rows _ _ c.rows-rows.ensures.table.rows.rising (omega (arith, c.from.ensures, c.from-2.ensures)))

pub loop-k-init : goal.loop-k-init
loop-k-init c =
    let a = c.args in
    let t = a.self.now in
    let h = c.columns-columns.ensures.table in
    let e = c.columns-columns.ensures.value in
    let left : 0 ≡ lines_below t.columns 0 = sym (lines_below-zero t.columns) in
    let right : c.count_below-right.result ≡ lines_below t.columns (0 + x_extent a.inst a.way) = lines_below-read _ _ _ _ _ c.count_below-right.ensures.value e (omega (arith, c.from-3.ensures, c.extent_along-across.ensures.extent)) in
    let low : c.count_below-low.result ≡ lines_below t.rows a.y = lines_below-read _ _ _ _ _ c.count_below-low.ensures.value c.rows-rows.ensures.value c.from.ensures in
    let high : c.count_below-high.result ≡ lines_below t.rows (a.y + y_extent a.inst a.way) = lines_below-read _ _ _ _ _ c.count_below-high.ensures.value c.rows-rows.ensures.value (omega (arith, c.from-2.ensures, c.extent_along-along.ensures.extent)) in
    let weight : c.crossings_weight-least.result ≡ block_weight (weight_at t) 0 a.y (x_extent a.inst a.way) (y_extent a.inst a.way) = c.crossings_weight-least.ensures ∙ crossings-block t 0 a.y (x_extent a.inst a.way) (y_extent a.inst a.way) _ _ _ _ h left right low high in
    record {
      least = rw weight (in_row-first t a.inst a.way a.y h c.requires.across c.requires.along);
      right = λ p. omega (arith, right, lines_below-mono t.columns (0 + x_extent a.inst a.way) (get_or t.columns 0 0 + 1 + x_extent a.inst a.way) h.columns.rising (omega arith));
    }

pub count_below_from-right-requires-clause-known : goal.count_below_from-right-requires-clause-known
count_below_from-right-requires-clause-known c =
    let e = c.columns-columns.ensures.value in
    let place : c.loop-k.k < length c.args.self.now.columns = rw e at c.loop-k-test.true in
    let here : get_or c.columns-columns.result.now c.loop-k.k 0 ≡ get_or c.args.self.now.columns c.loop-k.k 0 = ap (λ xs. get_or xs c.loop-k.k 0) e in
    let end : c.from-then-end-inst.result ≡ get_or c.args.self.now.columns c.loop-k.k 0 + 1 + x_extent c.args.inst c.args.way = omega (arith, here, c.from-then-end-inst.ensures, c.extent_along-across.ensures.extent) in
    rw (e, end) (c.loop-k.invariant.right place)

pub crossings_weight-requires-clause-columns : goal.crossings_weight-requires-clause-columns
crossings_weight-requires-clause-columns c =
    let t = c.args.self.now in
    let k = c.loop-k.k in
    let up = c.columns-columns.ensures.table.columns.rising in
    let e = c.columns-columns.ensures.value in
    let place : k < length t.columns = rw e at c.loop-k-test.true in
    let here : get_or c.columns-columns.result.now k 0 ≡ get_or t.columns k 0 = ap (λ xs. get_or xs k 0) e in
    let end : c.from-then-end-inst.result ≡ get_or t.columns k 0 + 1 + x_extent c.args.inst c.args.way = omega (arith, here, c.from-then-end-inst.ensures, c.extent_along-across.ensures.extent) in
    let right : c.count_below_from-right.result ≡ lines_below t.columns (get_or t.columns k 0 + 1 + x_extent c.args.inst c.args.way) = lines_below-read _ _ _ _ _ c.count_below_from-right.ensures.value e end in
    omega (arith, right, lines_below-behind t.columns k up place, lines_below-mono t.columns (get_or t.columns k 0 + 1) (get_or t.columns k 0 + 1 + x_extent c.args.inst c.args.way) up (omega arith))

pub loop-k-preserved : goal.loop-k-preserved
loop-k-preserved c =
    let a = c.args in
    let t = a.self.now in
    let k = c.loop-k.k in
    let h = c.columns-columns.ensures.table in
    let e = c.columns-columns.ensures.value in
    let place : k < length t.columns = rw e at c.loop-k-test.true in
    let here : get_or c.columns-columns.result.now k 0 ≡ get_or t.columns k 0 = ap (λ xs. get_or xs k 0) e in
    elim c.if-end-inst.branch [
      | then-end-inst w ↦
          let left : k + 1 ≡ lines_below t.columns (get_or t.columns k 0 + 1) = sym (lines_below-behind t.columns k h.columns.rising place) in
          let end : w.from-then-end-inst.result ≡ get_or t.columns k 0 + 1 + x_extent a.inst a.way = omega (arith, here, w.from-then-end-inst.ensures, c.extent_along-across.ensures.extent) in
          let right : w.count_below_from-right.result ≡ lines_below t.columns (get_or t.columns k 0 + 1 + x_extent a.inst a.way) = lines_below-read _ _ _ _ _ w.count_below_from-right.ensures.value e end in
          let low : c.count_below-low.result ≡ lines_below t.rows a.y = lines_below-read _ _ _ _ _ c.count_below-low.ensures.value c.rows-rows.ensures.value c.from.ensures in
          let high : c.count_below-high.result ≡ lines_below t.rows (a.y + y_extent a.inst a.way) = lines_below-read _ _ _ _ _ c.count_below-high.ensures.value c.rows-rows.ensures.value (omega (arith, c.from-2.ensures, c.extent_along-along.ensures.extent)) in
          let weight : w.crossings_weight.result ≡ block_weight (weight_at t) (get_or t.columns k 0 + 1) a.y (x_extent a.inst a.way) (y_extent a.inst a.way) = w.crossings_weight.ensures ∙ crossings-block t (get_or t.columns k 0 + 1) a.y (x_extent a.inst a.way) (y_extent a.inst a.way) _ _ _ _ h left right low high in
          let fits : get_or t.columns k 0 + 1 + x_extent a.inst a.way ≤ a.inst.l_side = omega (arith, here, w.if-end-inst.true, c.extent_along-across.ensures.extent) in
          record {
            least = rw (w.least-is, w.min-least.ensures, weight) (in_row-next t a.inst a.way a.y k c.loop-k.least h c.requires.along place fits c.loop-k.invariant.least);
            right = λ p. omega (arith, w.right-is, right, lines_below-next t.columns k (x_extent a.inst a.way) h.columns.rising p);
          }
      | else-end-inst w ↦
          let past : a.inst.l_side < get_or t.columns k 0 + 1 + x_extent a.inst a.way = omega (arith, here, w.if-end-inst.false, c.extent_along-across.ensures.extent) in
          record {
            least = rw w.least-is (in_row-skip t a.inst a.way a.y k c.loop-k.least h past c.loop-k.invariant.least);
            right = λ p. omega (arith, w.right-is, c.loop-k.invariant.right place, lines_below-next t.columns k (x_extent a.inst a.way) h.columns.rising p);
          }
    ]

pub returns : goal.returns
returns c =
    let a = c.args in
    let t = a.self.now in
    let end : c.loop-k.k ≡ length t.columns = rw (sym c.columns-columns.ensures.value) (omega (arith, c.loop-k-test.false, c.loop-k.auto.k-end)) in
    in_row-all t a.inst a.way a.y c.loop-k.least c.columns-columns.ensures.table (rw end at c.loop-k.invariant.least)
