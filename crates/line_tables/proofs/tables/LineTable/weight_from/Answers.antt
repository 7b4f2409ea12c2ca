use Rattle.std.proofs.Common.{◌≡◌, ◌+◌, refl, ◌∙◌, arith}
use Rattle.line_tables.specs.Laws.{lines_below}
use Rattle.line_tables.proofs.LineSteps.{lines_below-mono, lines_below-read}
use Rattle.line_tables.proofs.BlockSteps.{crossings-block}
use Rattle.line_tables.proofs.tables.LineTable.weight_from.Goals as goal

pub crossings_weight-requires-clause-columns : goal.crossings_weight-requires-clause-columns
crossings_weight-requires-clause-columns c =
    rw (c.count_below-left.ensures.value, c.count_below-right.ensures.value, c.columns-columns.ensures.value) (lines_below-mono c.args.self.now.columns _ _ c.columns-columns.ensures.table.columns.rising (omega (arith, c.from.ensures, c.from-2.ensures)))

pub crossings_weight-requires-clause-rows : goal.crossings_weight-requires-clause-rows
crossings_weight-requires-clause-rows c =
    rw (c.count_below-low.ensures.value, c.count_below-high.ensures.value, c.rows-rows.ensures.value) (lines_below-mono c.args.self.now.rows _ _ c.columns-columns.ensures.table.rows.rising (omega (arith, c.from-4.ensures, c.from-5.ensures)))

pub returns : goal.returns
returns c =
    let a = c.args in
    let columns = c.columns-columns in
    let rows = c.rows-rows in
    let left : c.count_below-left.result ≡ lines_below a.self.now.columns a.x = lines_below-read _ _ _ _ _ c.count_below-left.ensures.value columns.ensures.value c.from.ensures in
    let right : c.count_below-right.result ≡ lines_below a.self.now.columns (a.x + a.a) = lines_below-read _ _ _ _ _ c.count_below-right.ensures.value columns.ensures.value (rw (c.from-2.ensures, c.from-3.ensures) refl) in
    let low : c.count_below-low.result ≡ lines_below a.self.now.rows a.y = lines_below-read _ _ _ _ _ c.count_below-low.ensures.value rows.ensures.value c.from-4.ensures in
    let high : c.count_below-high.result ≡ lines_below a.self.now.rows (a.y + a.b) = lines_below-read _ _ _ _ _ c.count_below-high.ensures.value rows.ensures.value (rw (c.from-5.ensures, c.from-6.ensures) refl) in
    record { value = c.crossings_weight.ensures ∙ crossings-block a.self.now a.x a.y a.a a.b _ _ _ _ columns.ensures.table left right low high }
