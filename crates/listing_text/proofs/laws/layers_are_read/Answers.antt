use Rattle.listing_text.proofs.LayerReaders.{layers_read}
use Rattle.listing_text.proofs.laws.layers_are_read.Goals as goal

pub returns : goal.returns
returns c = λ count. layers_read count
