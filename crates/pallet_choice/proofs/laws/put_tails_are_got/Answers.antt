use Rattle.pallet_choice.proofs.TailBytes.{put_is_got}
use Rattle.pallet_choice.proofs.laws.put_tails_are_got.Goals as goal

pub returns : goal.returns
returns c = put_is_got
