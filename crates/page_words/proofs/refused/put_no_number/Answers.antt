use Rattle.std.proofs.Common.{codes}
use Rattle.order_reader.specs.Columns.{column_name}
use Rattle.page_words.specs.Refused.{no_number}
use Rattle.page_words.proofs.Parts.{three_parts}
use Rattle.page_words.proofs.refused.put_no_number.Goals as goal

pub returns : goal.returns
unfolding no_number
returns c =
    three_parts c.args.out.now.items c.put_text.new.out.items c.put_column.new.out.items c.put_text-2.new.out.items
    (codes "What stands under ") (column_name c.args.field) (codes " is no number: a number is 0, or one to ten digits of which the first is not 0.")
    c.in_ok-put_text.ensures c.in_ok-put_column.ensures c.in_ok-put_text-2.ensures
