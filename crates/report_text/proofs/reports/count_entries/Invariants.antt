use Rattle.std.proofs.Common.{◌≡◌, ◌-◌}
use Rattle.texts.specs.Lines.{whole_lines, unfinished}
use Rattle.plan_entries.specs.Ranges.{most_entries}
use Rattle.report_text.specs.ReportLines.{entries_from, entries_counted}
use Rattle.report_text.proofs.ReportLoop.{with_before}
use Rattle.report_text.proofs.reports.count_entries.Given as goal

abbrev pub invariant-loop-before : goal.invariant-loop-before
invariant-loop-before l = record {
  read : with_before l.before (entries_from l.form (most_entries l.form - l.before) l.before (whole_lines l.rest)) ≡ entries_counted l.form (whole_lines l.bytes);
  rest : unfinished l.rest ≡ unfinished l.bytes;
}
