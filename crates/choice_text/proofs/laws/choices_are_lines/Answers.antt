use Rattle.choice_text.proofs.ChoiceBytes.{file_text_is}
use Rattle.choice_text.proofs.laws.choices_are_lines.Goals as goal

pub returns : goal.returns
returns c = file_text_is
