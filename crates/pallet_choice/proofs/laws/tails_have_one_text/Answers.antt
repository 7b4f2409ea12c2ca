use Rattle.pallet_choice.proofs.TailBytes.{one_text}
use Rattle.pallet_choice.proofs.laws.tails_have_one_text.Goals as goal

pub returns : goal.returns
returns c = one_text
