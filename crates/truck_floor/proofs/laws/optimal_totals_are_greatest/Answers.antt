use Rattle.truck_floor.proofs.FloorLoads.{greatest}
use Rattle.truck_floor.proofs.laws.optimal_totals_are_greatest.Goals as goal

pub returns : goal.returns
returns c = greatest
