use Rattle.l_patterns.proofs.AdmitLemmas.{admitted}
use Rattle.l_patterns.proofs.laws.ell_numbers_are_admitted.Goals as goal

pub returns : goal.returns
returns c = admitted
