use Rattle.std.proofs.Common.{◌≡◌, ◌≤◌, ◌++◌, List, length}
use Rattle.std.specs.Prelude.{All}
use Rattle.cert_text.specs.declared.forms.Form.TheVariants.{Two}
use Rattle.plan_entries.specs.Ranges.{IsInRange}
use Rattle.plan_entries.specs.declared.entries.Entry.{Entry}
use Rattle.report_checker.specs.declared.verdicts.Verdict.{Verdict}
use Rattle.par_judge.specs.Judged.{AreVerdicts}
use Rattle.run_parts.specs.Written.{Wrote}
use Rattle.check_mode.specs.Verdicts.{any_no, verdict_lines}
use Rattle.choice_mode.specs.Scores.{scores_of}
use Rattle.choice_mode.proofs.judging.judge_entries.Given as goal

abbrev pub invariant-loop-alloc : goal.invariant-loop-alloc
invariant-loop-alloc g l = record {
  judged : (before : List Entry) × (vs : List Verdict) × (l.initial.entries ≡ before ++ l.entries)
      × AreVerdicts before vs × (any_no vs ≡ l.seen.no) × (l.seen.scores.items ≡ scores_of before)
      × Wrote (g.K.Sink.past l.initial.sink) (g.K.Sink.past l.sink) (verdict_lines before vs);
  untouched : g.K.Sink.past l.sink ≡ g.K.Sink.past l.initial.sink → l.sink ≡ l.initial.sink;
  later : (g.K.Sink.past l.initial.sink).faults ≤ (g.K.Sink.past l.sink).faults;
  ranges : All (IsInRange Two) l.entries;
}

abbrev pub decreases-loop-alloc : goal.decreases-loop-alloc
decreases-loop-alloc g l = length l.entries
