use Rattle.std.proofs.Common.{ℕ, ◌≤◌, take}
use Rattle.std.specs.List.{All}
use Rattle.contact_rules.specs.Steps.{IsFree}
use Rattle.contact_rules.proofs.SpanSteps.{FreesFrom}
use Rattle.contact_rules.proofs.spans.longest_free.Given as goal

abbrev pub invariant-loop-p : goal.invariant-loop-p
invariant-loop-p l = record {
  first : (n : ℕ) → IsFree l.spans l.side 0 n → n ≤ l.most;
  each : All (FreesFrom l.spans l.side l.most) (take l.p-index l.spans);
  reached : (row : ℕ) × IsFree l.spans l.side row l.most;
}
