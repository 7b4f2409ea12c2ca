use Rattle.std.proofs.Common.{◌≡◌, ◌+◌, ◌≤◌, take, length, List}
use Rattle.run_parts.specs.Written.{Wrote}
use Rattle.cert_text.specs.declared.forms.Form.TheVariants.{Two}
use Rattle.plan_entries.specs.declared.entries.Entry.{Entry}
use Rattle.report_text.specs.Reports.{entries_text}
use Rattle.plan_mode.specs.Entries.{AreEntriesFrom}
use Rattle.choice_mode.specs.Scores.{scores_of}
use Rattle.choice_mode.proofs.choosing.write_entries.Given as goal

abbrev pub invariant-loop-row : goal.invariant-loop-row
invariant-loop-row g l = (l.number ≡ 1 + l.row-index)
    × ((g.K.Sink.past l.initial.sink).faults ≤ (g.K.Sink.past l.sink).faults)
    × ((es : List Entry) × AreEntriesFrom 1 (take l.row-index l.rows) es × (l.scores.items ≡ scores_of es) × (length es ≡ l.row-index)
    × Wrote (g.K.Sink.past l.initial.sink) (g.K.Sink.past l.sink) (entries_text Two es))
