use Rattle.std.proofs.Common.{◌≡◌, ◌≤◌, ◌++◌, List, length}
use Rattle.std.specs.Prelude.{All}
use Rattle.cert_text.specs.declared.forms.Form.TheVariants.{Two}
use Rattle.run_parts.specs.Written.{Wrote}
use Rattle.plan_entries.specs.Ranges.{IsInRange}
use Rattle.plan_entries.specs.declared.entries.Entry.{Entry}
use Rattle.report_text.specs.Reports.{entries_text}
use Rattle.check_mode.proofs.upgrades.write_entries.Given as goal

abbrev pub invariant-loop-alloc : goal.invariant-loop-alloc
invariant-loop-alloc g l = record {
  wrote : (before : List Entry) × (l.initial.entries.entries ≡ before ++ l.entries.entries)
      × Wrote (g.K.Sink.past l.initial.sink) (g.K.Sink.past l.sink) (entries_text Two before);
  later : (g.K.Sink.past l.initial.sink).faults ≤ (g.K.Sink.past l.sink).faults;
  ranges : All (IsInRange Two) l.entries.entries;
}

abbrev pub decreases-loop-alloc : goal.decreases-loop-alloc
decreases-loop-alloc g l = length l.entries.entries
