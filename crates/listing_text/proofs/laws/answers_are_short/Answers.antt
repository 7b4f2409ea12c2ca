use Rattle.listing_text.proofs.Lengths.{answer_short}
use Rattle.listing_text.proofs.laws.answers_are_short.Goals as goal

pub returns : goal.returns
returns c = answer_short
