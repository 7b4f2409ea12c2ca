-- What `check_floor_text` and the rows of a floor's text answer.
use Rattle.std.specs.Prelude.{◌≡◌, List, [], ◌∷◌, Option, Some, None, Result, Ok, Err}
use Rattle.plan_memory.specs.declared.Memory.{Memory}
use Rattle.report_text.specs.declared.reports.ReportFault.{ReportFault}
use Rattle.report_text.specs.declared.reports.ReportFault.TheVariants as faults
use Rattle.floor_text.specs.declared.rows.FloorRow.{FloorRow}

-- these rows, unless memory was refused
abbrev pub GivesRows : List FloorRow → Result (List FloorRow) ReportFault → Type 0
GivesRows rows (Ok read) = read ≡ rows
GivesRows rows (Err faults.Memory) = Unit {0}
GivesRows rows (Err (faults.Line k)) = ⊥

-- the first row, which then is no more among those that are left; without memory nothing is changed
abbrev pub YieldsRow : List FloorRow → List FloorRow → Result (Option FloorRow) Memory → Type 0
YieldsRow old new (Ok (Some r)) = old ≡ r ∷ new
YieldsRow old new (Ok None) = (old ≡ []) × (new ≡ old)
YieldsRow old new (Err m) = new ≡ old
