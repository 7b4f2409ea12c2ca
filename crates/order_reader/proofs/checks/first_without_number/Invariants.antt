use Rattle.std.proofs.Common.{◌≡◌, drop}
use Rattle.std.specs.Prelude.{find, not}
use Rattle.csv.specs.Records.{fields_of}
use Rattle.order_reader.specs.Faults.{has_number}
use Rattle.order_reader.proofs.checks.first_without_number.Given as goal

abbrev pub invariant-loop-field : goal.invariant-loop-field
invariant-loop-field l = find (λ field. not (has_number (fields_of l.fn.fields) field)) l.columns ≡ find (λ field. not (has_number (fields_of l.fn.fields) field)) (drop l.field-index l.columns)
