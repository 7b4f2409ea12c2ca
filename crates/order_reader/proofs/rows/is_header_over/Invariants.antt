use Rattle.std.proofs.Common.{◌≡◌, ◌+◌, drop, map}
use Rattle.std.specs.Str.{bytes_eq}
use Rattle.std.specs.Cmp.Lexicographic.{pointwise}
use Rattle.csv.specs.Records.{fields_of}
use Rattle.order_reader.specs.Columns.{header_over, same_fields, column_name}
use Rattle.order_reader.proofs.rows.is_header_over.Given as goal

abbrev pub invariant-loop-place : goal.invariant-loop-place
invariant-loop-place l = same_fields (fields_of l.fn.fields) (header_over l.columns) ≡ pointwise bytes_eq (drop (l.place + 1) (fields_of l.fn.fields)) (map column_name (drop l.place l.columns))
