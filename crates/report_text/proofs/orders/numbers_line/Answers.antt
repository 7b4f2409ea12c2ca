use Rattle.std.proofs.Common.{length, sym, ap, ◌∙◌}
use Rattle.texts.proofs.Parsers.{some_is}
use Rattle.report_text.specs.Words.{all_numbers}
use Rattle.report_text.proofs.OrderWords.{written_count, all_count}
use Rattle.report_text.proofs.orders.numbers_line.Goals as goal

pub array_of-requires : goal.array_of-requires
array_of-requires c =
    let ns = c.in_ok-written.written.items in
    let items = some_is (all_numbers c.args.form ns) c.in_ok-numbers.numbers.items c.in_ok-numbers.ensures in
    ap length (c.as_slice.ensures.value ∙ sym items) ∙ all_count c.args.form ns (written_count c.args.form c.args.line.now ns c.in_ok-written.ensures)
