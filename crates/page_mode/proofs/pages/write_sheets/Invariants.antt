use Rattle.std.proofs.Common.{◌≡◌, ◌≤◌, ◌+◌, ◌++◌, List, length}
use Rattle.std.specs.Prelude.{All}
use Rattle.std.specs.List.{concat}
use Rattle.cert_text.specs.declared.forms.Form.TheVariants.{Two}
use Rattle.run_parts.specs.Written.{Wrote}
use Rattle.plan_entries.specs.Ranges.{IsInRange}
use Rattle.plan_entries.specs.declared.entries.Entry.{Entry}
use Rattle.page_text.specs.Page.{sheets_from, IsSummaryOf}
use Rattle.page_mode.proofs.pages.write_sheets.Given as goal

abbrev pub invariant-loop-alloc : goal.invariant-loop-alloc
invariant-loop-alloc g l = record {
  wrote : (before : List Entry) × (l.initial.entries.entries ≡ before ++ l.entries.entries) × (l.number ≡ length before + 1)
      × IsSummaryOf l.summary before
      × Wrote (g.K.Sink.past l.initial.sink) (g.K.Sink.past l.sink) (concat (sheets_from 1 before));
  later : (g.K.Sink.past l.initial.sink).faults ≤ (g.K.Sink.past l.sink).faults;
  ranges : All (IsInRange Two) l.entries.entries;
  few : length l.initial.entries.entries ≤ 256;
}

abbrev pub decreases-loop-alloc : goal.decreases-loop-alloc
decreases-loop-alloc g l = length l.entries.entries
