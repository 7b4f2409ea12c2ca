use Rattle.choice_mode.proofs.Acceptance.{accepted}
use Rattle.choice_mode.proofs.laws.choices_are_accepted.Goals as goal

pub returns : goal.returns
returns c = accepted c.choices_are_lines.ensures c.choices_have_one_spelling.ensures c.choices_are_short.ensures c.choices_are_tails.ensures
