-- What `upgrade` did, by the code that it gave.
use Rattle.std.specs.Prelude.{ℕ, ◌+◌, ◌≡◌, ◌≤◌, ◌⊎◌, true, List, ◌++◌, length}
use Rattle.plan_io.specs.Causes.{Rose}
use Rattle.plan_io.specs.Streams.{Intake, Outlet}
use Rattle.run_parts.specs.Codes.{IsQuietOrMemory}
use Rattle.run_parts.specs.Written.{IsPrefixOf}
use Rattle.run_parts.specs.declared.codes.Code.{Code}
use Rattle.run_parts.specs.declared.codes.Code.TheVariants.{Done, Findings, Usage, TooLong, NoHeader, TooManyRows, BadReport, ReadFault, WriteFault, Memory}
use Rattle.cert_text.specs.declared.forms.Form.TheVariants.{Two}
use Rattle.plan_entries.specs.declared.entries.Entry.{Entry}
use Rattle.report_text.specs.Reports.{Report, report_text, head_text, entries_text, AreReported}
use Rattle.report_reading.specs.Reading.{most_bytes, HasReport, HasNoReport, IsReportFile}

-- What was read is a report, and the report of its very entries was written in the form of today. So each entry keeps
-- its verdict.
pub record Upgraded (read wrote : List ℕ) : Type 0 where
  pub report : Report
  pub has_report : HasReport read report
  pub reported : AreReported Two report.entries
  pub text : wrote ≡ report_text Two report.entries

-- what was read is a report, and the first bytes of that other report were written
pub record UpgradedInPart (read wrote : List ℕ) : Type 0 where
  pub report : Report
  pub has_report : HasReport read report
  pub front : IsPrefixOf (report_text Two report.entries) wrote

-- what was read is a report, and the first line was written, and the whole text of the first entries
pub record UpgradedFirst (read wrote : List ℕ) : Type 0 where
  pub report : Report
  pub has_report : HasReport read report
  pub first : List Entry
  pub rest : List Entry
  pub parts : report.entries ≡ first ++ rest
  pub text : wrote ≡ head_text Two ++ entries_text Two first

-- What each code says, of the line of the answer, of the bytes that were read and those that were written, and of how
-- the source and the sink stood before and stand now.
abbrev pub UpgradeMeans : Code → ℕ → List ℕ → List ℕ → Intake → Intake → Outlet → Outlet → Type 0
UpgradeMeans Done line read wrote from from' to to' = (from'.ended ≡ true) × Upgraded read wrote × (line ≡ 0)
UpgradeMeans Findings line read wrote from from' to to' = ⊥
UpgradeMeans Usage line read wrote from from' to to' = ⊥
UpgradeMeans TooLong line read wrote from from' to to' = (length read ≡ most_bytes + 1) × (to' ≡ to) × (line ≡ 0)
UpgradeMeans NoHeader line read wrote from from' to to' = ⊥
UpgradeMeans TooManyRows line read wrote from from' to to' = ⊥
UpgradeMeans BadReport line read wrote from from' to to' = (from'.ended ≡ true) × (to' ≡ to) × HasNoReport read line
UpgradeMeans ReadFault line read wrote from from' to to' = (length read ≤ most_bytes) × Rose from.faults from'.faults × (to' ≡ to) × (line ≡ 0)
UpgradeMeans WriteFault line read wrote from from' to to' = (from'.ended ≡ true) × UpgradedInPart read wrote × Rose to.faults to'.faults × (line ≡ 0)
UpgradeMeans Memory line read wrote from from' to to' = ((to' ≡ to) ⊎ ((from'.ended ≡ true) × UpgradedFirst read wrote)) × (to'.faults ≡ to.faults) × (from'.faults ≡ from.faults) × (length read ≤ most_bytes + 1) × (line ≡ 0)

-- What a run of `upgrade` did, between two moments of its streams.
pub record UpgradeRan (from : Intake) (to : Outlet) (code : Code) (line : ℕ) (from' : Intake) (to' : Outlet) : Type 0 where
  -- all bytes that it read, and all that it wrote
  pub read : List ℕ
  pub wrote : List ℕ
  pub given : from'.given ≡ from.given ++ read
  pub taken : to'.taken ≡ to.taken ++ wrote
  -- the counts of faults never fall
  pub source_later : from.faults ≤ from'.faults
  pub sink_later : to.faults ≤ to'.faults
  pub means : UpgradeMeans code line read wrote from from' to to'

-- Where no count of faults rose, and what was read is a report, nothing but memory was lacking.
abbrev pub UpgradesAreComplete : Type 0
UpgradesAreComplete = (from : Intake) (to : Outlet) (code : Code) (line : ℕ) (from' : Intake) (to' : Outlet) (ran : UpgradeRan from to code line from' to')
    → (Rose from.faults from'.faults → ⊥) → (Rose to.faults to'.faults → ⊥) → IsReportFile ran.read → IsQuietOrMemory code
