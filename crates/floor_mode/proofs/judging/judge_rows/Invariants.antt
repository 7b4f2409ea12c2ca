use Rattle.std.proofs.Common.{◌≡◌, ◌≤◌, ◌++◌, List, length}
use Rattle.std.specs.Prelude.{All}
use Rattle.cert_text.specs.declared.forms.Form.TheVariants.{Two}
use Rattle.plan_entries.specs.Ranges.{IsInRange}
use Rattle.run_parts.specs.Written.{Wrote}
use Rattle.floor_text.specs.declared.rows.FloorRow.{FloorRow}
use Rattle.floor_text.specs.Text.{entries_in}
use Rattle.floor_mode.specs.declared.judging.RowJudgement.{RowJudgement}
use Rattle.floor_mode.specs.Judging.{AreJudgements, any_wrong, rows_judged}
use Rattle.floor_mode.proofs.judging.judge_rows.Given as goal

abbrev pub invariant-loop-alloc : goal.invariant-loop-alloc
invariant-loop-alloc g l = record {
  judged : (before : List FloorRow) × (js : List RowJudgement) × (l.initial.rows ≡ before ++ l.rows)
      × AreJudgements before js × (any_wrong js ≡ l.found)
      × Wrote (g.K.Sink.past l.initial.sink) (g.K.Sink.past l.sink) (rows_judged before js);
  untouched : g.K.Sink.past l.sink ≡ g.K.Sink.past l.initial.sink → l.sink ≡ l.initial.sink;
  later : (g.K.Sink.past l.initial.sink).faults ≤ (g.K.Sink.past l.sink).faults;
  ranges : All (IsInRange Two) (entries_in l.rows);
}

abbrev pub decreases-loop-alloc : goal.decreases-loop-alloc
decreases-loop-alloc g l = length l.rows
