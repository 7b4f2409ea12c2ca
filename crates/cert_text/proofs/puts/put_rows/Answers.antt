use Rattle.std.proofs.lemmas.Result.{err_from_is_err_and}
use Rattle.texts.specs.Lines.{text_of}
use Rattle.texts.proofs.Growth.{grows_after}
use Rattle.cert_text.specs.Text.{row_lines}
use Rattle.cert_text.proofs.Pieces.{rows_more}
use Rattle.cert_text.proofs.puts.put_rows.Goals as goal

pub loop-y-preserved : goal.loop-y-preserved
loop-y-preserved c =
    let t = c.args.table.now in
    rows_more c.args.out.now.items c.loop-y.out.items c.put_row.new.out.items t.x_side c.loop-y.y t.cells c.loop-y.invariant c.in_ok-put_row.ensures

pub returns-in_err-put_row : goal.returns-in_err-put_row
returns-in_err-put_row c =
    let t = c.args.table.now in
    let p = err_from_is_err_and c.from_residual.result c.from_residual.ensures.1 in
    rw p.1 (grows_after c.args.out.now.items (text_of (row_lines t.x_side c.loop-y.y t.cells)) c.loop-y.out.items c.put_row.new.out.items c.loop-y.invariant c.in_err-put_row.ensures)
