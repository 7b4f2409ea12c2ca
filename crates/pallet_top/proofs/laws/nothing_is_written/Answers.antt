use Rattle.pallet_top.proofs.Sentences.{nothing}
use Rattle.pallet_top.proofs.laws.nothing_is_written.Goals as goal

pub returns : goal.returns
returns c = nothing
