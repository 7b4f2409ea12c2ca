use Rattle.std.proofs.Common.{◌≡◌, ◌≤◌, ◌⊎◌, take}
use Rattle.std.specs.List.{All, Any}
use Rattle.contact_rules.specs.Real.{real_finish}
use Rattle.contact_rules.specs.Steps.{EndsFrom}
use Rattle.contact_rules.proofs.cuts.next_end.Given as goal

abbrev pub invariant-loop-s : goal.invariant-loop-s
invariant-loop-s l = record {
  ahead : l.from ≤ l.next;
  limited : l.next ≤ l.limit;
  skips : All (EndsFrom l.axis l.inst l.gap l.from l.next) (take l.s-index l.spots);
  reached : (l.next ≡ l.limit) ⊎ Any (λ s. real_finish l.axis l.inst l.gap s ≡ l.next) l.spots;
}
