use Rattle.std.proofs.Common.{◌≡◌, ◌≤◌, take}
use Rattle.contact_rules.specs.Shared.{supporters}
use Rattle.contact_rules.proofs.shares.supports.Given as goal

abbrev pub invariant-loop-k : goal.invariant-loop-k
invariant-loop-k l = record {
  value : l.count ≡ supporters l.lower.inst l.gap (take l.k l.lower.spots) l.upper;
  few : l.count ≤ l.k;
}
