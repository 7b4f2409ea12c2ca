use Rattle.page_pieces.proofs.Escapes.{escaped_is_plain}
use Rattle.page_pieces.proofs.laws.escaped_texts_are_plain.Goals as goal

pub returns : goal.returns
returns c = escaped_is_plain
