use Rattle.std.proofs.Common.{◌++◌}
use Rattle.std.specs.Prelude.{codes}
use Rattle.texts.proofs.Growth.{then_puts}
use Rattle.page_stacks.specs.Totals.{cases_text, size_text, total_text}
use Rattle.page_stacks.proofs.totals.put_total.Goals as goal

pub returns : goal.returns
unfolding total_text
returns c =
    let a = c.args in
    let new = c.put_size.new.out.items in
    let cases = cases_text a.cases in
    let size = size_text a.height a.grams in
    then_puts a.out.now.items c.put_text.new.out.items new (codes "<p class=\"total\">") (cases ++ size) c.put_size.result c.in_ok-put_text.ensures
    (then_puts c.put_text.new.out.items c.put_cases.new.out.items new cases size c.put_size.result c.in_ok-put_cases.ensures c.put_size.ensures)
