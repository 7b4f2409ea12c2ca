use Rattle.texts.proofs.Bytes.{has_one_spelling}
use Rattle.listing_text.specs.Text.{layers_lines}
use Rattle.listing_text.specs.Ranges.{AreLayersInRange}
use Rattle.listing_text.specs.Lines.{layers_at}
use Rattle.listing_text.proofs.LayerReaders.{layers_read, layers_plain}
use Rattle.listing_text.proofs.laws.layers_have_one_spelling.Goals as goal

pub returns : goal.returns
returns c = λ count. has_one_spelling layers_lines (AreLayersInRange count) (layers_at count) (layers_read count) (layers_plain count)
