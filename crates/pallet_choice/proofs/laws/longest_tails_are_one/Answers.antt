use Rattle.pallet_choice.proofs.TailBytes.{one_longest}
use Rattle.pallet_choice.proofs.laws.longest_tails_are_one.Goals as goal

pub returns : goal.returns
returns c = one_longest
