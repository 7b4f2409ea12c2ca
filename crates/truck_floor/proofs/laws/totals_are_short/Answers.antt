use Rattle.truck_floor.proofs.TotalLines.{short}
use Rattle.truck_floor.proofs.laws.totals_are_short.Goals as goal

pub returns : goal.returns
returns c = short
