use Rattle.std.proofs.Common.{◌≡◌, ◌-◌}
use Rattle.texts.specs.Lines.{whole_lines, unfinished}
use Rattle.cert_text.specs.Lines.{rows_from}
use Rattle.cert_text.proofs.RowLoop.{with_front}
use Rattle.cert_text.proofs.lines.rows_at.Given as goal

abbrev pub invariant-loop-place : goal.invariant-loop-place
invariant-loop-place l = record {
  read : with_front l.cells.items (rows_from l.x_side (l.count - l._place) (whole_lines l.rest)) ≡ rows_from l.x_side l.count (whole_lines l.bytes);
  rest : unfinished l.rest ≡ unfinished l.bytes;
}
