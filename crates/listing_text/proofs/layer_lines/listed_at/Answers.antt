use Rattle.std.proofs.Common.{◌∙◌}
use Rattle.std.proofs.lemmas.Result.{err_from_is_err_and}
use Rattle.texts.specs.Lines.{whole_lines}
use Rattle.listing_text.specs.Lines.{listed_from}
use Rattle.listing_text.proofs.Loops.{layers_go_on, layers_end, layers_done}
use Rattle.listing_text.proofs.layer_lines.listed_at.Goals as goal

pub returns-in_err-layer-clause-read : goal.returns-in_err-layer-clause-read
returns-in_err-layer-clause-read c =
    let p = err_from_is_err_and c.from_residual.result c.from_residual.ensures.1 in
    rw (p.1, p.2) (layers_end c.in_err-layer.field-0.0 c.args.count c.loop-place.layers.items c.args.total c.loop-place.place (whole_lines c.loop-place.rest.now) (listed_from c.args.count c.args.total 1 (whole_lines c.args.bytes.now)) c.loop-place-test.true c.in_err-layer.ensures.read c.loop-place.invariant.read)

pub loop-place-preserved : goal.loop-place-preserved
loop-place-preserved c = record {
  read = rw c.in_ok-push.ensures.items (layers_go_on c.args.count c.loop-place.layers.items c.args.total c.loop-place.place (whole_lines c.loop-place.rest.now) (whole_lines c.in_ok-layer.after.now) c.in_ok-layer.layer (listed_from c.args.count c.args.total 1 (whole_lines c.args.bytes.now)) c.loop-place-test.true c.in_ok-layer.ensures.read c.loop-place.invariant.read);
  rest = c.in_ok-layer.ensures.rest ∙ c.loop-place.invariant.rest;
}

pub returns-clause-read : goal.returns-clause-read
returns-clause-read c = layers_done c.args.count c.loop-place.layers.items c.args.total c.loop-place.place (whole_lines c.loop-place.rest.now) (listed_from c.args.count c.args.total 1 (whole_lines c.args.bytes.now)) c.loop-place-test.false c.loop-place.invariant.read
