use Rattle.std.proofs.Common.{◌≡◌, take}
use Rattle.csv.specs.Records.{fields_of}
use Rattle.order_reader.specs.Faults.{id_in}
use Rattle.case_design.specs.Sizes.{size_rows as rows_of_sizes}
use Rattle.case_design.proofs.sizes.size_rows.Given as goal

abbrev pub invariant-loop-place : goal.invariant-loop-place
invariant-loop-place l = l.rows.items ≡ rows_of_sizes (id_in (fields_of l.row)) l.brief (take l.place l.sizes)
