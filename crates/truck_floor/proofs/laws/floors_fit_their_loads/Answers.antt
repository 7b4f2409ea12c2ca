use Rattle.truck_floor.proofs.FloorOrders.{orders_fit}
use Rattle.truck_floor.proofs.laws.floors_fit_their_loads.Goals as goal

pub returns : goal.returns
returns c = orders_fit
