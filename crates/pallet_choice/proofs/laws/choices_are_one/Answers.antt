use Rattle.pallet_choice.proofs.Chosen.{choice_is_one}
use Rattle.pallet_choice.proofs.laws.choices_are_one.Goals as goal

pub returns : goal.returns
returns c = choice_is_one
