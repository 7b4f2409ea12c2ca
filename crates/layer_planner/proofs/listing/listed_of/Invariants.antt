use Rattle.std.proofs.Common.{◌≡◌, map, take}
use Rattle.layer_planner.specs.Listing.{listed}
use Rattle.layer_planner.proofs.listing.listed_of.Given as goal

abbrev pub invariant-loop-image : goal.invariant-loop-image
invariant-loop-image l = l.layers.items ≡ map listed (take l.image-index l.images)
