use Rattle.std.proofs.Common.{◌≡◌, ◌++◌, drop, reverse}
use Rattle.std.specs.List.{flat_map}
use Rattle.page_figures.specs.Slabs.{faces_of_case}
use Rattle.page_figures.proofs.slabs.put_faces.Given as goal

abbrev pub invariant-loop-place : goal.invariant-loop-place
invariant-loop-place l = l.out.items ≡ l.fn.out.items ++ flat_map (faces_of_case l.sides) (reverse (drop l.place l.spots))
