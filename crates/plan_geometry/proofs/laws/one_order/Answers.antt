use Rattle.plan_geometry.proofs.Unique.{in_order-permutation}
use Rattle.plan_geometry.proofs.laws.one_order.Goals as goal

pub returns : goal.returns
returns c = in_order-permutation
