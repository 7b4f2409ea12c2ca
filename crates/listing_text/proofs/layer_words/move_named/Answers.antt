use Rattle.listing_text.proofs.OneWord.{named_is}
use Rattle.listing_text.proofs.layer_words.move_named.Goals as goal

pub returns : goal.returns
returns c = named_is c.of_name.result c.args.name.now c.of_name.ensures
