use Rattle.std.proofs.Common.{take}
use Rattle.std.specs.List.{All}
use Rattle.contact_rules.specs.Rules.{Touches}
use Rattle.contact_rules.proofs.rules.all_touch.Given as goal

abbrev pub invariant-loop-s : goal.invariant-loop-s
invariant-loop-s l = All (Touches l.lower.inst l.gap l.percent l.lower.spots) (take l.s-index l.upper)
