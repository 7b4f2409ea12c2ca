use Rattle.std.proofs.Common.{◌≡◌, ◌≤◌, take}
use Rattle.run_parts.specs.Written.{Wrote}
use Rattle.check_mode.specs.Verdicts.{any_no, verdict_lines}
use Rattle.check_mode.proofs.checks.write_lines.Given as goal

abbrev pub invariant-loop-place : goal.invariant-loop-place
invariant-loop-place g l = record {
  found : any_no (take l.place l.verdicts) ≡ l.found;
  untouched : g.K.Sink.past l.sink ≡ g.K.Sink.past l.initial.sink → l.sink ≡ l.initial.sink;
  later : (g.K.Sink.past l.initial.sink).faults ≤ (g.K.Sink.past l.sink).faults;
  wrote : Wrote (g.K.Sink.past l.initial.sink) (g.K.Sink.past l.sink) (verdict_lines l.group (take l.place l.verdicts));
}
