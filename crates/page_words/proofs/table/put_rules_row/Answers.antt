use Rattle.std.proofs.Common.{codes}
use Rattle.stack_builder.specs.Orders.{rules_of}
use Rattle.page_words.specs.Rules.{rules_words}
use Rattle.page_words.specs.Table.{rules_row}
use Rattle.page_words.proofs.Parts.{three_parts}
use Rattle.page_words.proofs.table.put_rules_row.Goals as goal

pub returns : goal.returns
unfolding rules_row
returns c =
    three_parts c.args.out.now.items c.put_text.new.out.items c.put_rules_asked.new.out.items c.put_text-2.new.out.items
    (codes "<tr><th scope=\"row\">Rules asked for</th><td>") (rules_words (rules_of c.args.order.now)) (codes "</td></tr>\n")
    c.in_ok-put_text.ensures c.in_ok-put_rules_asked.ensures c.in_ok-put_text-2.ensures
