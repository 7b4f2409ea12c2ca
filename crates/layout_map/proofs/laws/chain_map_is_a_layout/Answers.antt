use Rattle.layout_map.proofs.ChainMap.{chain_map_law}
use Rattle.layout_map.proofs.laws.chain_map_is_a_layout.Goals as goal

pub returns : goal.returns
returns c = chain_map_law
