use Rattle.layer_symmetry.specs.Variants.{IsVariantsBefore}
use Rattle.layer_symmetry.proofs.images.variants.Given as goal

abbrev pub invariant-loop-way : goal.invariant-loop-way
invariant-loop-way l = IsVariantsBefore l.layer.inst l.layer.spots l.way-index l.found.items
