use Rattle.layout_map.proofs.ChainMap.{normal_law}
use Rattle.layout_map.proofs.laws.chain_map_is_normal.Goals as goal

pub returns : goal.returns
returns c = normal_law
