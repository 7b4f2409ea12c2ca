use Rattle.page_pieces.proofs.Escapes.{escaped_tells}
use Rattle.page_pieces.proofs.laws.escaped_texts_lose_nothing.Goals as goal

pub returns : goal.returns
returns c = escaped_tells
