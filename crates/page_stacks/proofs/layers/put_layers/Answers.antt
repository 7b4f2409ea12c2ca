use Rattle.std.proofs.Common.{◌++◌}
use Rattle.std.specs.Prelude.{codes}
use Rattle.texts.proofs.Growth.{then_puts}
use Rattle.page_stacks.specs.Layers.{form_lines, layers_text}
use Rattle.page_stacks.proofs.layers.put_layers.Goals as goal

pub returns : goal.returns
unfolding layers_text
returns c =
    let a = c.args in
    let new = c.put_text-2.new.out.items in
    let lines = form_lines a.forms a.stack.now in
    let last = codes "</ul>\n" in
    then_puts a.out.now.items c.put_text.new.out.items new (codes "<h3>The stack</h3>\n<ul class=\"stack\">\n") (lines ++ last) c.put_text-2.result c.in_ok-put_text.ensures
    (then_puts c.put_text.new.out.items c.put_forms.new.out.items new lines last c.put_text-2.result c.in_ok-put_forms.ensures c.put_text-2.ensures)
