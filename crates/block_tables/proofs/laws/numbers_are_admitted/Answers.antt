use Rattle.block_tables.proofs.AdmitLemmas.{admitted}
use Rattle.block_tables.proofs.laws.numbers_are_admitted.Goals as goal

pub returns : goal.returns
returns c = admitted
