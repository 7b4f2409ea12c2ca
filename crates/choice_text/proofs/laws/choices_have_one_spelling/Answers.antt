use Rattle.choice_text.proofs.ChoiceBytes.{files_one_spelling}
use Rattle.choice_text.proofs.laws.choices_have_one_spelling.Goals as goal

pub returns : goal.returns
returns c = files_one_spelling
