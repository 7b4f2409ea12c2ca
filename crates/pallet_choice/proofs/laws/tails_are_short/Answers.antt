use Rattle.pallet_choice.proofs.Lengths.{tail_short}
use Rattle.pallet_choice.proofs.laws.tails_are_short.Goals as goal

pub returns : goal.returns
returns c = tail_short
