use Rattle.pallet_top.proofs.Sentences.{causes}
use Rattle.pallet_top.proofs.laws.faults_have_their_cause.Goals as goal

pub returns : goal.returns
returns c = causes
