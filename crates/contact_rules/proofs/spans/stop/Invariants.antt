use Rattle.std.proofs.Common.{ℕ, ◌≤◌, ◌↔◌, take}
use Rattle.std.specs.List.{All}
use Rattle.contact_rules.specs.Steps.{StopsBy}
use Rattle.contact_rules.proofs.spans.stop.Given as goal

abbrev pub invariant-loop-p : goal.invariant-loop-p
invariant-loop-p l = (m : ℕ) → (m ≤ l.stop) ↔ ((m ≤ l.limit) × All (StopsBy l.row m) (take l.p-index l.spans))
