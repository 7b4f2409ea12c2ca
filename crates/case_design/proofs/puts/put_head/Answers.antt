use Rattle.std.proofs.Common.{◌≡◌, ◌++◌}
use Rattle.std.specs.Prelude.{codes}
use Rattle.texts.specs.Lines.{ended, text_of}
use Rattle.texts.proofs.Growth.{then_puts}
use Rattle.case_design.specs.Text.{row_lines}
use Rattle.case_design.proofs.puts.put_head.Goals as goal

pub returns : goal.returns
returns c =
    let first : c.put_text.new.out.items ≡ c.args.out.now.items ++ ended (codes "pallet-design 1") = c.in_ok-put_text.ensures in
    then_puts c.args.out.now.items c.put_text.new.out.items c.put_row_line.new.out.items (ended (codes "pallet-design 1")) (text_of (row_lines c.args.design.now)) c.put_row_line.result first c.put_row_line.ensures
