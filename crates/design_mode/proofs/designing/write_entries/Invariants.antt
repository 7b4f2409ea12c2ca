use Rattle.std.proofs.Common.{◌≡◌, ◌+◌, ◌≤◌, take, length, List}
use Rattle.run_parts.specs.Written.{Wrote}
use Rattle.cert_text.specs.declared.forms.Form.TheVariants.{Two}
use Rattle.plan_entries.specs.declared.entries.Entry.{Entry}
use Rattle.report_text.specs.Reports.{entries_text}
use Rattle.plan_mode.specs.Entries.{AreEntriesFrom}
use Rattle.plan_mode.specs.Groups.{AreNextEntries}
use Rattle.design_mode.specs.Covers.{covers_of}
use Rattle.design_mode.proofs.designing.write_entries.Given as goal

abbrev pub invariant-loop-index : goal.invariant-loop-index
invariant-loop-index g l = AreNextEntries (l.index + 1) l.rows l.ahead.items
    × ((g.K.Sink.past l.initial.sink).faults ≤ (g.K.Sink.past l.sink).faults)
    × ((es : List Entry) × AreEntriesFrom 1 (take l.index l.rows) es × (l.covers.items ≡ covers_of es) × (length es ≡ l.index)
    × Wrote (g.K.Sink.past l.initial.sink) (g.K.Sink.past l.sink) (entries_text Two es))
