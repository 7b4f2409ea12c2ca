use Rattle.std.proofs.Common.{◌≡◌, take}
use Rattle.layer_symmetry.specs.Moves.{image_spots}
use Rattle.layer_symmetry.proofs.turns.turned.Given as goal

abbrev pub invariant-loop-s : goal.invariant-loop-s
invariant-loop-s l = l.spots.items ≡ image_spots l.layer.inst l.way (take l.s-index l.layer.spots)
