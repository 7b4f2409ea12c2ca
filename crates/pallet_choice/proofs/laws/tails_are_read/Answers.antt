use Rattle.std.proofs.Common.{◌≡◌, true}
use Rattle.pallet_choice.proofs.EndedTails.{ended_tails_read}
use Rattle.pallet_choice.proofs.laws.tails_are_read.Goals as goal

pub returns : goal.returns
returns c = λ lines fits read P starts. ended_tails_read lines (λ n. fits n ≡ true) read P starts
