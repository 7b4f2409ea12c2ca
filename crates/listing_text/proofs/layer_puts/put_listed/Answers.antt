use Rattle.std.proofs.Common.{◌≡◌, ◌++◌, ◌+◌, take, subst}
use Rattle.std.proofs.lemmas.Result.{err_from_is_err_and}
use Rattle.texts.specs.Lines.{text_of}
use Rattle.texts.proofs.Growth.{grows_after}
use Rattle.plan_entries.specs.declared.listed.Listed.{Listed}
use Rattle.listing_text.specs.Text.{layer_lines, listed_lines}
use Rattle.listing_text.proofs.Pieces.{listed_more}
use Rattle.listing_text.proofs.layer_puts.put_listed.Goals as goal

pub loop-place-preserved : goal.loop-place-preserved
loop-place-preserved c =
    let l = c.loop-place in
    let here = c.index-layers-place.result in
    let now = subst (λ (x : Listed). c.put_layer.new.out.items ≡ l.out.items ++ text_of (layer_lines (l.place + 1) x)) c.index-layers-place.is c.in_ok-put_layer.ensures in
    listed_more c.args.out.now.items l.out.items c.put_layer.new.out.items l.place c.args.layers.now here c.loop-place-test.true l.invariant now

pub returns-in_err-put_layer : goal.returns-in_err-put_layer
returns-in_err-put_layer c =
    let p = err_from_is_err_and c.from_residual.result c.from_residual.ensures.1 in
    rw p.1 (grows_after c.args.out.now.items (text_of (listed_lines 1 (take c.loop-place.place c.args.layers.now))) c.loop-place.out.items c.put_layer.new.out.items c.loop-place.invariant c.in_err-put_layer.ensures)
