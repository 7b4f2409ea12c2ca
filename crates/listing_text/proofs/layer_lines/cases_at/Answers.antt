use Rattle.std.proofs.Common.{◌∙◌}
use Rattle.std.proofs.lemmas.Result.{err_from_is_err_and}
use Rattle.texts.specs.Lines.{whole_lines}
use Rattle.listing_text.specs.Lines.{cases_from}
use Rattle.listing_text.proofs.Loops.{cases_go_on, cases_end, cases_done}
use Rattle.listing_text.proofs.layer_lines.cases_at.Goals as goal

pub returns-in_err-spot-clause-read : goal.returns-in_err-spot-clause-read
returns-in_err-spot-clause-read c =
    let p = err_from_is_err_and c.from_residual.result c.from_residual.ensures.1 in
    rw (p.1, p.2) (cases_end c.in_err-spot.field-0.0.count c.loop-place.spots.items c.args.count c.loop-place._place (whole_lines c.loop-place.rest.now) (cases_from c.args.count (whole_lines c.args.bytes.now)) c.loop-place-test.true c.in_err-spot.ensures.read c.loop-place.invariant.read)

pub loop-place-preserved : goal.loop-place-preserved
loop-place-preserved c = record {
  read = rw c.in_ok-push.ensures.items (cases_go_on c.loop-place.spots.items c.args.count c.loop-place._place (whole_lines c.loop-place.rest.now) (whole_lines c.in_ok-spot.after.now) c.in_ok-spot.spot (cases_from c.args.count (whole_lines c.args.bytes.now)) c.loop-place-test.true c.in_ok-spot.ensures.read c.loop-place.invariant.read);
  rest = c.in_ok-spot.ensures.rest ∙ c.loop-place.invariant.rest;
}

pub returns-clause-read : goal.returns-clause-read
returns-clause-read c = cases_done c.loop-place.spots.items c.args.count c.loop-place._place (whole_lines c.loop-place.rest.now) (cases_from c.args.count (whole_lines c.args.bytes.now)) c.loop-place-test.false c.loop-place.invariant.read
