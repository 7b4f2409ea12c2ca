use Rattle.plan_geometry.proofs.Counting.{sum_by-le-total}
use Rattle.plan_geometry.proofs.laws.cases_weigh_at_most_the_total.Goals as goal

pub returns : goal.returns
returns c = sum_by-le-total
