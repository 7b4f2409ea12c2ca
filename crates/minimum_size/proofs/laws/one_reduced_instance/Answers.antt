use Rattle.minimum_size.proofs.Reduced.{least_same}
use Rattle.minimum_size.proofs.laws.one_reduced_instance.Goals as goal

pub returns : goal.returns
returns c = least_same
