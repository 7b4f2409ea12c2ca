use Rattle.std.proofs.Common.{◌≡◌, ◌++◌, ◌+◌, take, subst}
use Rattle.page_pieces.specs.Pieces.{numbered}
use Rattle.std.proofs.lemmas.Result.{err_from_is_err_and}
use Rattle.texts.proofs.Growth.{grows_after}
use Rattle.plan_entries.specs.declared.listed.Listed.{Listed}
use Rattle.page_figures.specs.Forms.{form_text}
use Rattle.page_pieces.proofs.Loops.{numbered_more}
use Rattle.page_figures.proofs.forms.put_forms.Goals as goal

pub loop-place-preserved : goal.loop-place-preserved
loop-place-preserved c =
    let l = c.loop-place in
    let here = c.index-layers-place.result in
    let now = subst (λ (x : Listed). c.put_form.new.out.items ≡ l.out.items ++ (form_text c.args.sides) (l.place + 1) x) c.index-layers-place.is c.in_ok-put_form.ensures in
    numbered_more (form_text c.args.sides) c.args.out.now.items l.out.items c.put_form.new.out.items l.place c.args.layers.now here c.loop-place-test.true l.invariant now

pub returns-in_err-put_form : goal.returns-in_err-put_form
returns-in_err-put_form c =
    let p = err_from_is_err_and c.from_residual.result c.from_residual.ensures.1 in
    rw p.1 (grows_after c.args.out.now.items (numbered (form_text c.args.sides) 1 (take c.loop-place.place c.args.layers.now)) c.loop-place.out.items c.put_form.new.out.items c.loop-place.invariant c.in_err-put_form.ensures)
