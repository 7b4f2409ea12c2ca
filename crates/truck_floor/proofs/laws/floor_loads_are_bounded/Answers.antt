use Rattle.truck_floor.proofs.FloorLoads.{bounded}
use Rattle.truck_floor.proofs.laws.floor_loads_are_bounded.Goals as goal

pub returns : goal.returns
returns c = bounded
