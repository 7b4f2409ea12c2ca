use Rattle.std.proofs.Common.{◌++◌}
use Rattle.std.specs.Prelude.{codes}
use Rattle.texts.proofs.Growth.{then_puts}
use Rattle.page_stacks.specs.Places.{listed}
use Rattle.page_stacks.specs.Layers.{form_end, several_line}
use Rattle.page_stacks.proofs.layers.put_several.Goals as goal

pub returns : goal.returns
unfolding several_line
returns c =
    let a = c.args in
    let new = c.put_form_end.new.out.items in
    let last = form_end a.form in
    then_puts a.out.now.items c.put_text.new.out.items new (codes "<li>layers ") (listed a.layers.now ++ last) c.put_form_end.result c.in_ok-put_text.ensures
    (then_puts c.put_text.new.out.items c.put_listed.new.out.items new (listed a.layers.now) last c.put_form_end.result c.in_ok-put_listed.ensures c.put_form_end.ensures)
