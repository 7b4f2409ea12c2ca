use Rattle.std.proofs.Common.{◌≡◌, ◌+◌, ◌≤◌, take, length, List, ℕ}
use Rattle.run_parts.specs.Written.{Wrote}
use Rattle.plan_entries.specs.declared.entries.Entry.{Entry}
use Rattle.plan_entries.specs.Entries.{any_refused}
use Rattle.plan_mode.specs.Entries.{AreEntriesFrom}
use Rattle.plan_mode.specs.Groups.{AreNextEntries}
use Rattle.plan_mode.specs.Pieces.{ArePieces, joined}
use Rattle.plan_mode.proofs.reports.write_entries.Given as goal

abbrev pub invariant-loop-index : goal.invariant-loop-index
invariant-loop-index g l = AreNextEntries (l.index + 1) l.rows l.ahead.items
    × ((g.K.Sink.past l.initial.sink).faults ≤ (g.K.Sink.past l.sink).faults)
    × ((es : List Entry) × (ts : List (List ℕ)) × AreEntriesFrom 1 (take l.index l.rows) es × (any_refused es ≡ l.found) × (length es ≡ l.index)
    × ArePieces l.draw es ts × Wrote (g.K.Sink.past l.initial.sink) (g.K.Sink.past l.sink) (joined ts))
