use Rattle.std.proofs.Common.{◌≡◌, ◌-◌}
use Rattle.texts.specs.Lines.{whole_lines, unfinished}
use Rattle.report_text.proofs.ReportLoop.{with_before}
use Rattle.choice_text.specs.Lines.{entries_from, entries_counted}
use Rattle.choice_text.proofs.entries.count_entries.Given as goal

abbrev pub invariant-loop-before : goal.invariant-loop-before
invariant-loop-before l = record {
  read : with_before l.before (entries_from (256 - l.before) l.before (whole_lines l.rest)) ≡ entries_counted (whole_lines l.bytes);
  rest : unfinished l.rest ≡ unfinished l.bytes;
}
