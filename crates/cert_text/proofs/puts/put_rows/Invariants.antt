use Rattle.std.proofs.Common.{◌≡◌, ◌++◌}
use Rattle.texts.specs.Lines.{text_of}
use Rattle.cert_text.specs.Text.{row_lines}
use Rattle.cert_text.proofs.puts.put_rows.Given as goal

abbrev pub invariant-loop-y : goal.invariant-loop-y
invariant-loop-y l = l.out.items ≡ l.fn.out.items ++ text_of (row_lines l.table.x_side l.y l.table.cells)
