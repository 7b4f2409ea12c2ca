use Rattle.std.proofs.Common.{◌≡◌, ◌-◌}
use Rattle.texts.specs.Lines.{whole_lines, unfinished}
use Rattle.floor_text.specs.Lines.{rows_from, rows_counted}
use Rattle.floor_text.proofs.RowLoop.{with_before}
use Rattle.floor_text.proofs.readers.count_rows.Given as goal

abbrev pub invariant-loop-before : goal.invariant-loop-before
invariant-loop-before l = record {
  read : with_before l.before (rows_from (128 - l.before) l.before (whole_lines l.rest)) ≡ rows_counted (whole_lines l.bytes);
  rest : unfinished l.rest ≡ unfinished l.bytes;
}
