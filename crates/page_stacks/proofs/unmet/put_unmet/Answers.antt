use Rattle.std.proofs.Common.{◌++◌}
use Rattle.std.specs.List.{flat_map}
use Rattle.texts.proofs.Growth.{then_puts}
use Rattle.page_stacks.specs.Unmet.{unmet_line, unmet_head, unmet_end, unmet_text}
use Rattle.page_stacks.proofs.unmet.put_unmet.Goals as goal

pub returns : goal.returns
unfolding unmet_text
returns c =
    let a = c.args in
    let new = c.put_text-2.new.out.items in
    let lines = flat_map unmet_line a.told.now in
    then_puts a.out.now.items c.put_text.new.out.items new unmet_head (lines ++ unmet_end) c.put_text-2.result c.in_ok-put_text.ensures
    (then_puts c.put_text.new.out.items c.put_unmet_lines.new.out.items new lines unmet_end c.put_text-2.result c.in_ok-put_unmet_lines.ensures c.put_text-2.ensures)
