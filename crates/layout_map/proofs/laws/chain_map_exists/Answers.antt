use Rattle.layout_map.proofs.GreatestChains.{chain_map_exists}
use Rattle.layout_map.proofs.laws.chain_map_exists.Goals as goal

pub returns : goal.returns
returns c = chain_map_exists
