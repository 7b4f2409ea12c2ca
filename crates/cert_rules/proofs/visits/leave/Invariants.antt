use Rattle.std.proofs.Common.{◌≡◌, ◌≤◌, length, vec_len}
use Rattle.std.specs.Prelude.{reverse}
use Rattle.cert_rules.specs.Waiting.{waiting, SameButSteps}
use Rattle.cert_rules.proofs.visits.leave.Given as goal

abbrev pub invariant-loop-tried : goal.invariant-loop-tried
invariant-loop-tried l = record {
  same : l.sky.steps ≡ reverse l.path.items;
  kept : SameButSteps l.initial.sky l.sky;
  waits : waiting l.sky.inst l.sky.steps ≡ waiting l.initial.sky.inst l.initial.sky.steps;
  shallower : length l.sky.steps ≤ length l.initial.sky.steps;
}

abbrev pub decreases-loop-tried : goal.decreases-loop-tried
decreases-loop-tried l = vec_len l.path
