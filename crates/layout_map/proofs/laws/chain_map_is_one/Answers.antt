use Rattle.layout_map.proofs.GreatestChains.{chain_map_is_one}
use Rattle.layout_map.proofs.laws.chain_map_is_one.Goals as goal

pub returns : goal.returns
returns c = chain_map_is_one
