use Rattle.std.proofs.Common.{◌≡◌, ◌++◌, take}
use Rattle.contact_rules.specs.Steps.{crossing}
use Rattle.contact_rules.proofs.spans.add_crossing.Given as goal

abbrev pub invariant-loop-s : goal.invariant-loop-s
invariant-loop-s l = l.spans.items ≡ l.fn.spans.items ++ crossing l.axis l.inst l.gap l.line (take l.s-index l.spots)
