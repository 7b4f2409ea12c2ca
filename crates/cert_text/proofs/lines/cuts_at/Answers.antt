use Rattle.std.proofs.Common.{◌∙◌}
use Rattle.std.proofs.lemmas.Result.{err_from_is_err_and}
use Rattle.texts.specs.Lines.{whole_lines}
use Rattle.cert_text.specs.Lines.{cuts_from}
use Rattle.cert_text.proofs.CutLoop.{goes_on, ends, is_done}
use Rattle.cert_text.proofs.lines.cuts_at.Goals as goal

pub returns-in_err-cut-clause-read : goal.returns-in_err-cut-clause-read
returns-in_err-cut-clause-read c =
    let p = err_from_is_err_and c.from_residual.result c.from_residual.ensures.1 in
    rw (p.1, p.2) (ends c.in_err-cut.field-0.0.count c.loop-place.cuts.items c.args.count c.loop-place.place (whole_lines c.loop-place.rest.now) (cuts_from c.args.count 0 (whole_lines c.args.bytes.now)) c.loop-place-test.true c.in_err-cut.ensures.read c.loop-place.invariant.read)

pub loop-place-preserved : goal.loop-place-preserved
loop-place-preserved c = record {
  read = rw c.in_ok-push.ensures.items (goes_on c.loop-place.cuts.items c.args.count c.loop-place.place (whole_lines c.loop-place.rest.now) (whole_lines c.in_ok-cut.after.now) c.in_ok-cut.cut (cuts_from c.args.count 0 (whole_lines c.args.bytes.now)) c.loop-place-test.true c.in_ok-cut.ensures.read c.loop-place.invariant.read);
  rest = c.in_ok-cut.ensures.rest ∙ c.loop-place.invariant.rest;
}

pub returns-clause-read : goal.returns-clause-read
returns-clause-read c = is_done c.loop-place.cuts.items c.args.count c.loop-place.place (whole_lines c.loop-place.rest.now) (cuts_from c.args.count 0 (whole_lines c.args.bytes.now)) c.loop-place-test.false c.loop-place.invariant.read
