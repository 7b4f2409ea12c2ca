use Rattle.truck_floor.proofs.TotalLines.{one_text}
use Rattle.truck_floor.proofs.laws.totals_have_one_text.Goals as goal

pub returns : goal.returns
returns c = one_text
