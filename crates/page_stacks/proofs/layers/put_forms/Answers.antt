use Rattle.std.proofs.Common.{sym}
use Rattle.std.proofs.lemmas.List.{append-nil}
use Rattle.std.proofs.lemmas.Result.{err_from_is_err_and}
use Rattle.texts.proofs.Growth.{grows_after}
use Rattle.page_stacks.specs.Layers.{form_lines}
use Rattle.page_stacks.proofs.FormSteps.{lines_more}
use Rattle.page_stacks.proofs.layers.put_forms.Goals as goal

pub loop-form-init : goal.loop-form-init
unfolding form_lines
loop-form-init c = sym (append-nil c.args.out.now.items)

pub loop-form-preserved : goal.loop-form-preserved
loop-form-preserved c = lines_more c.args.out.now.items c.loop-form.out.items c.put_form.new.out.items c.loop-form.form c.args.stack.now c.loop-form.invariant c.in_ok-put_form.ensures

pub returns-in_err-put_form : goal.returns-in_err-put_form
returns-in_err-put_form c =
    let p = err_from_is_err_and c.from_residual.result c.from_residual.ensures.1 in
    rw p.1 (grows_after c.args.out.now.items (form_lines c.loop-form.form c.args.stack.now) c.loop-form.out.items c.put_form.new.out.items c.loop-form.invariant c.in_err-put_form.ensures)
