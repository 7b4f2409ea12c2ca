use Rattle.partitions.proofs.SameSides.{same_sides_fit}
use Rattle.partitions.proofs.laws.same_sides_fit_alike.Goals as goal

pub returns : goal.returns
returns c = same_sides_fit
