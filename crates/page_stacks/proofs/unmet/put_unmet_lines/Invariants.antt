use Rattle.std.proofs.Common.{◌≡◌, ◌++◌, take}
use Rattle.std.specs.List.{flat_map}
use Rattle.page_stacks.specs.Unmet.{unmet_line}
use Rattle.page_stacks.proofs.unmet.put_unmet_lines.Given as goal

abbrev pub invariant-loop-unmet : goal.invariant-loop-unmet
invariant-loop-unmet l = l.out.items ≡ l.fn.out.items ++ flat_map unmet_line (take l.unmet-index l.told)
