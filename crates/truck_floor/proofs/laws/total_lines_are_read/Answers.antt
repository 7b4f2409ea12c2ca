use Rattle.truck_floor.proofs.TotalLines.{lines_are_read}
use Rattle.truck_floor.proofs.laws.total_lines_are_read.Goals as goal

pub returns : goal.returns
returns c = lines_are_read
