use Rattle.floor_mode.proofs.Holding.{totals-hold}
use Rattle.floor_mode.proofs.laws.totals_hold.Goals as goal

pub returns : goal.returns
returns c = totals-hold c.floor_loads_are_bounded.ensures c.floor_loads_are_reached.ensures
