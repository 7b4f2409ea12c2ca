-- What `check` says of what `plan` wrote.
use Rattle.std.specs.Prelude.{ℕ, ◌≡◌, Bool, false, List, map}
use Rattle.order_reader.specs.declared.rows.Row.{Row}
use Rattle.plan_entries.specs.declared.entries.Entry.{Entry}
use Rattle.plan_mode.specs.Entries.{AreEntriesOf}
use Rattle.plan_mode.specs.Accepted.{verdict_due}
use Rattle.plan_mode.specs.OrdersFiles.{HasRows}
use Rattle.plan_mode.specs.Reports.{Reported}
use Rattle.check_mode.specs.Checks.{Judged}
use Rattle.check_mode.specs.Verdicts.{verdicts_text}

-- What was written of the entries of the rows of an orders file: yes of each plan, and refused of each refused row.
pub record SaysYes (orders wrote : List ℕ) : Type 0 where
  pub rows : List Row
  pub has_rows : HasRows orders rows
  pub entries : List Entry
  pub are_entries : AreEntriesOf rows entries
  pub verdicts : wrote ≡ verdicts_text entries (map verdict_due entries)

-- Where `plan` read these orders and wrote this report, and `check` read that report and wrote its verdicts, these are yes
-- of each plan and refused of each refused row, so none is no.
abbrev pub PlansAreAccepted : Type 0
PlansAreAccepted = (orders report : List ℕ) (refused : Bool) (wrote : List ℕ) (found : Bool)
    → Reported false orders report refused → Judged report wrote found → SaysYes orders wrote × (found ≡ false)
