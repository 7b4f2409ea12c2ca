use Rattle.std.proofs.Common.{◌≡◌, ◌*◌, ◌≤◌, take, length}
use Rattle.contact_rules.specs.Shared.{total_shared}
use Rattle.contact_rules.proofs.shares.contact.Given as goal

abbrev pub invariant-loop-k : goal.invariant-loop-k
invariant-loop-k l = record {
  value : l.total ≡ total_shared l.lower.inst l.gap (take l.k l.lower.spots) l.upper;
  within : l.k ≤ length l.lower.spots;
  small : l.total ≤ l.k * (l.inst.long * l.inst.short);
}
