use Rattle.std.proofs.Common.{◌≡◌, take, length, map}
use Rattle.csv.specs.Records.{fields_of}
use Rattle.order_reader.specs.Columns.{all_columns}
use Rattle.order_reader.specs.Faults.{value_under}
use Rattle.order_reader.proofs.checks.numbers_of.Given as goal

abbrev pub invariant-loop-place : goal.invariant-loop-place
invariant-loop-place l = (length l.numbers ≡ 12) × (take l.place l.numbers ≡ map (value_under (fields_of l.fn.fields)) (take l.place all_columns))
