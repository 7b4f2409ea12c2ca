use Rattle.std.proofs.Common.{◌++◌}
use Rattle.std.specs.Prelude.{codes}
use Rattle.texts.proofs.Growth.{then_puts}
use Rattle.page_stacks.specs.Stacks.{stack_words}
use Rattle.page_text.specs.Sheets.{stack_picture, stack_part}
use Rattle.page_text.proofs.sheets.put_stack_part.Goals as goal

pub returns : goal.returns
unfolding stack_part
returns c =
    let p = c.args.plan.now in
    let old = c.args.out.now.items in
    let one = c.put_stack_words.new.out.items in
    let two = c.put_stack_picture.new.out.items in
    let new = c.put_text.new.out.items in
    let picture = stack_picture c.args.sheet c.args.sides p.layers p.stack in
    let end = codes "</section>\n" in
    then_puts old one new (stack_words p) (picture ++ end) c.put_text.result c.in_ok-put_stack_words.ensures
    (then_puts one two new picture end c.put_text.result c.in_ok-put_stack_picture.ensures c.put_text.ensures)
