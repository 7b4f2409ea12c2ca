use Rattle.layout_map.proofs.ListChains.{chain_is_listed}
use Rattle.layout_map.proofs.laws.chains_are_lists.Goals as goal

pub returns : goal.returns
returns c = chain_is_listed
