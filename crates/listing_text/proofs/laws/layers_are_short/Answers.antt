use Rattle.listing_text.proofs.Lengths.{layers_short}
use Rattle.listing_text.proofs.laws.layers_are_short.Goals as goal

pub returns : goal.returns
returns c = layers_short
