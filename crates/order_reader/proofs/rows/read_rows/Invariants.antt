use Rattle.std.proofs.Common.{◌≡◌, take, map}
use Rattle.csv.specs.Records.{fields_of}
use Rattle.order_reader.specs.Rows.{rows_of_records}
use Rattle.order_reader.proofs.rows.read_rows.Given as goal

abbrev pub invariant-loop-place : goal.invariant-loop-place
invariant-loop-place l = l.rows.items ≡ rows_of_records l.columns (map fields_of (take l.place l.records))
