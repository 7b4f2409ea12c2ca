use Rattle.truck_floor.proofs.TotalFacts.{one}
use Rattle.truck_floor.proofs.laws.totals_are_one.Goals as goal

pub returns : goal.returns
returns c = one
