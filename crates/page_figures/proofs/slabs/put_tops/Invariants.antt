use Rattle.std.proofs.Common.{◌≡◌, ◌++◌, take}
use Rattle.std.specs.List.{flat_map}
use Rattle.page_figures.specs.Slabs.{top_of_case}
use Rattle.page_figures.proofs.slabs.put_tops.Given as goal

abbrev pub invariant-loop-spot : goal.invariant-loop-spot
invariant-loop-spot l = l.out.items ≡ l.fn.out.items ++ flat_map (top_of_case l.sides) (take l.spot-index l.spots)
