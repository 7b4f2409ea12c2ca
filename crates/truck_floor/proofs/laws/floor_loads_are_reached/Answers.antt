use Rattle.truck_floor.proofs.FloorLoads.{reached}
use Rattle.truck_floor.proofs.laws.floor_loads_are_reached.Goals as goal

pub returns : goal.returns
returns c = reached
