use Rattle.std.proofs.Common.{sym, ap, length, ◌∙◌, eqb}
use Rattle.texts.specs.Lines.{words_left}
use Rattle.texts.proofs.Parsers.{some_left}
use Rattle.texts.proofs.words.is_end.Goals as goal

pub returns-in-Some : goal.returns-in-Some
returns-in-Some c = sym (ap (λ o. eqb (length (words_left o)) 0) c.in-Some.is ∙ some_left c.in-Some.field-0.now)
