use Rattle.std.proofs.Common.{◌∙◌}
use Rattle.std.proofs.lemmas.Result.{err_from_is_err_and}
use Rattle.texts.specs.Lines.{whole_lines}
use Rattle.cert_text.specs.Lines.{rows_from}
use Rattle.cert_text.proofs.RowLoop.{goes_on, ends, is_done}
use Rattle.cert_text.proofs.lines.rows_at.Goals as goal

pub returns-in_err-row-clause-read : goal.returns-in_err-row-clause-read
returns-in_err-row-clause-read c =
    let p = err_from_is_err_and c.from_residual.result c.from_residual.ensures.1 in
    rw (p.1, p.2) (ends c.in_err-row.field-0.0 c.args.x_side c.loop-place.cells.items c.args.count c.loop-place._place (whole_lines c.loop-place.rest.now) (rows_from c.args.x_side c.args.count (whole_lines c.args.bytes.now)) c.loop-place-test.true c.in_err-row.ensures.read c.loop-place.invariant.read)

pub returns-clause-read : goal.returns-clause-read
returns-clause-read c = is_done c.args.x_side c.loop-place.cells.items c.args.count c.loop-place._place (whole_lines c.loop-place.rest.now) (rows_from c.args.x_side c.args.count (whole_lines c.args.bytes.now)) c.loop-place-test.false c.loop-place.invariant.read

pub loop-place-preserved : goal.loop-place-preserved
loop-place-preserved c = record {
  read = rw c.in_ok-append.ensures.items (goes_on c.args.x_side c.loop-place.cells.items c.args.count c.loop-place._place (whole_lines c.loop-place.rest.now) (whole_lines c.in_ok-row.after.now) c.in_ok-row.row.items (rows_from c.args.x_side c.args.count (whole_lines c.args.bytes.now)) c.loop-place-test.true c.in_ok-row.ensures.read c.loop-place.invariant.read);
  rest = c.in_ok-row.ensures.rest ∙ c.loop-place.invariant.rest;
}
