-- What the modes that read a report found in the bytes that they read.
use Rattle.std.specs.Prelude.{ℕ, ◌+◌, ◌≤◌, ◌≡◌, true, List, ◌++◌, length}
use Rattle.texts.specs.Spelling.{FaultsAt}
use Rattle.plan_io.specs.Causes.{Rose}
use Rattle.plan_io.specs.Streams.{Intake}
use Rattle.run_parts.specs.declared.codes.Code.{Code}
use Rattle.run_parts.specs.declared.codes.Code.TheVariants.{Done, Findings, Usage, TooLong, NoHeader, TooManyRows, BadReport, ReadFault, WriteFault, Memory}
use Rattle.report_text.specs.Reports.{Report, report_lines, IsReport}
use Rattle.report_text.specs.ReportAnswers.{IsReportIn}

-- how many bytes a report may have
abbrev pub most_bytes : ℕ
most_bytes = 268435456

-- the bytes are the text of this report, of either form, and no longer than one may be
pub record HasReport (bytes : List ℕ) (r : Report) : Type 0 where
  pub few_bytes : length bytes ≤ most_bytes
  pub is_report : IsReportIn bytes r

-- the bytes are the text of some report
abbrev pub IsReportFile : List ℕ → Type 0
IsReportFile bytes = (r : Report) × HasReport bytes r

-- the bytes, no more than a report may have, are no report's text of either form, and this is the first line, from 1,
-- with which none goes on
pub record HasNoReport (bytes : List ℕ) (line : ℕ) : Type 0 where
  pub few_bytes : length bytes ≤ most_bytes
  pub none : (r : Report) → IsReportIn bytes r → ⊥
  pub fault : FaultsAt report_lines IsReport bytes line

-- What each code says of a run that got no report, of the bytes that it read, and of how the source stood before and
-- stands now.
abbrev pub NoReportMeans : Code → ℕ → List ℕ → Intake → Intake → Type 0
NoReportMeans Done line read from from' = ⊥
NoReportMeans Findings line read from from' = ⊥
NoReportMeans Usage line read from from' = ⊥
NoReportMeans TooLong line read from from' = (length read ≡ most_bytes + 1) × (line ≡ 0)
NoReportMeans NoHeader line read from from' = ⊥
NoReportMeans TooManyRows line read from from' = ⊥
NoReportMeans BadReport line read from from' = (from'.ended ≡ true) × HasNoReport read line
NoReportMeans ReadFault line read from from' = (length read ≤ most_bytes) × Rose from.faults from'.faults × (line ≡ 0)
NoReportMeans WriteFault line read from from' = ⊥
NoReportMeans Memory line read from from' = (from'.faults ≡ from.faults) × (length read ≤ most_bytes + 1) × (line ≡ 0)

-- what a run did that got no report, between two moments of its source
pub record GotNoReport (from : Intake) (code : Code) (line : ℕ) (from' : Intake) : Type 0 where
  pub read : List ℕ
  pub given : from'.given ≡ from.given ++ read
  pub later : from.faults ≤ from'.faults
  pub means : NoReportMeans code line read from from'
