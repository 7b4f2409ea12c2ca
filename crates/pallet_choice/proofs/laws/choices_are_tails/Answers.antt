use Rattle.pallet_choice.proofs.TailTexts.{choice_is_tail}
use Rattle.pallet_choice.proofs.laws.choices_are_tails.Goals as goal

pub returns : goal.returns
returns c = choice_is_tail
