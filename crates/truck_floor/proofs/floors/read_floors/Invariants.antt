use Rattle.std.proofs.Common.{◌≡◌, take, map}
use Rattle.csv.specs.Records.{fields_of}
use Rattle.truck_floor.specs.FloorRows.{rows_of_floors}
use Rattle.truck_floor.proofs.floors.read_floors.Given as goal

abbrev pub invariant-loop-place : goal.invariant-loop-place
invariant-loop-place l = l.rows.items ≡ rows_of_floors (map fields_of (take l.place l.floors))
