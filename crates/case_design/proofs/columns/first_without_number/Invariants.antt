use Rattle.std.proofs.Common.{ℕ, ◌<◌, ◌≤◌}
use Rattle.csv.specs.Records.{fields_of}
use Rattle.case_design.specs.Columns.{HasNumber}
use Rattle.case_design.proofs.columns.first_without_number.Given as goal

abbrev pub invariant-loop-column : goal.invariant-loop-column
invariant-loop-column l = (other : ℕ) → 2 ≤ other → other < l.column → HasNumber (fields_of l.row) other
