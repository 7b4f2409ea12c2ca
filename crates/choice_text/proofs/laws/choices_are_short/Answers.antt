use Rattle.choice_text.proofs.Lengths.{file_short}
use Rattle.choice_text.proofs.laws.choices_are_short.Goals as goal

pub returns : goal.returns
returns c = file_short
