use Rattle.std.proofs.Common.{codes}
use Rattle.page_words.specs.Table.{sizes_rows, asked_rows, order_table}
use Rattle.page_words.proofs.Parts.{four_parts}
use Rattle.page_words.proofs.table.put_table.Goals as goal

pub returns : goal.returns
unfolding order_table
returns c =
    four_parts c.args.out.now.items c.put_text.new.out.items c.put_sizes.new.out.items c.put_asked.new.out.items c.put_text-2.new.out.items
    (codes "<table><caption>The order</caption>\n") (sizes_rows c.args.order.now) (asked_rows c.args.order.now) (codes "</table>\n")
    c.in_ok-put_text.ensures c.in_ok-put_sizes.ensures c.in_ok-put_asked.ensures c.in_ok-put_text-2.ensures
