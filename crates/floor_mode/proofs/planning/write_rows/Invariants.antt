use Rattle.std.proofs.Common.{◌≡◌, ◌*◌, ◌≤◌, take, length, List}
use Rattle.run_parts.specs.Written.{Wrote}
use Rattle.plan_entries.specs.Entries.{any_refused}
use Rattle.floor_text.specs.declared.rows.FloorRow.{FloorRow}
use Rattle.floor_text.specs.Text.{entries_in, rows_text}
use Rattle.floor_mode.specs.Planning.{ArePlanned}
use Rattle.floor_mode.proofs.planning.write_rows.Given as goal

abbrev pub invariant-loop-before : goal.invariant-loop-before
invariant-loop-before g l = record {
  planned : (floors : List FloorRow) × ArePlanned (take (2 * l.before) l.rows) floors × (length floors ≡ l.before) × (any_refused (entries_in floors) ≡ l.found)
      × Wrote (g.K.Sink.past l.initial.sink) (g.K.Sink.past l.sink) (rows_text floors);
  later : (g.K.Sink.past l.initial.sink).faults ≤ (g.K.Sink.past l.sink).faults;
}
