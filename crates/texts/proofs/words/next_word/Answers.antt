use Rattle.std.proofs.Common.{sym, ap, ◌∙◌}
use Rattle.texts.specs.Lines.{words_left}
use Rattle.texts.proofs.LineEnds.{takes_word, last_word}
use Rattle.texts.proofs.words.next_word.Goals as goal

pub returns-in-Some-place_of : goal.returns-in-Some-place_of
returns-in-Some-place_of c = ap words_left c.in-Some.is ∙ takes_word c.in-Some.line.now c.in-Some-place_of.at (sym c.in-Some-place_of.ensures)

pub returns-in-None : goal.returns-in-None
returns-in-None c = ap words_left c.in-Some.is ∙ last_word c.in-Some.line.now (sym c.in-None.ensures)
