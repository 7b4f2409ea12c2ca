use Rattle.partitions.proofs.SameSides.{same_sides_maximal}
use Rattle.partitions.proofs.laws.same_sides_share_maximal_partitions.Goals as goal

pub returns : goal.returns
returns c = same_sides_maximal
