use Rattle.std.proofs.Common.{◌≡◌, drop}
use Rattle.std.specs.Prelude.{find}
use Rattle.std.specs.Str.{bytes_eq}
use Rattle.order_reader.specs.Columns.{column_name}
use Rattle.order_reader.proofs.fields.first_named.Given as goal

abbrev pub invariant-loop-field : goal.invariant-loop-field
invariant-loop-field l = find (λ field. bytes_eq (column_name field) l.fn.name) l.columns ≡ find (λ field. bytes_eq (column_name field) l.fn.name) (drop l.field-index l.columns)
