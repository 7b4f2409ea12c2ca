use Rattle.std.proofs.Common.{length, sym, subst, ◌∙◌, ap, arith}
use Rattle.layer_planner.specs.Listing.{IsListing}
use Rattle.layer_planner.proofs.listing.list_layer.Goals as goal
