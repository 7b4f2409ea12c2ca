use Rattle.std.proofs.Common.{◌≡◌, ◌++◌, ◌*◌, drop}
use Rattle.texts.specs.Lines.{text_of}
use Rattle.cert_text.specs.Text.{row_lines}
use Rattle.cert_text.proofs.puts.put_weight_rows.Given as goal

abbrev pub invariant-loop-row : goal.invariant-loop-row
invariant-loop-row l = record {
  put : l.out.items ≡ l.fn.out.items ++ text_of (row_lines l.width l._row l.weights);
  left : l.rest ≡ drop (l._row * l.width) l.weights;
}
