-- What `check` did, by the code that it gave.
use Rattle.std.specs.Prelude.{ℕ, ◌+◌, ◌≡◌, ◌≤◌, ◌==◌, ◌⊎◌, Bool, true, false, List, [], ◌++◌, length}
use Rattle.plan_io.specs.Causes.{Rose}
use Rattle.plan_io.specs.Streams.{Intake, Outlet}
use Rattle.run_parts.specs.Codes.{IsDoneOrMemory}
use Rattle.run_parts.specs.Written.{IsPrefixOf}
use Rattle.run_parts.specs.declared.codes.Code.{Code}
use Rattle.run_parts.specs.declared.codes.Code.TheVariants.{Done, Findings, Usage, TooLong, NoHeader, TooManyRows, BadReport, ReadFault, WriteFault, Memory}
use Rattle.plan_entries.specs.declared.entries.Entry.{Entry}
use Rattle.report_text.specs.Reports.{Report, done_text}
use Rattle.report_checker.specs.declared.verdicts.Verdict.{Verdict}
use Rattle.par_judge.specs.Judged.{AreVerdicts}
use Rattle.report_reading.specs.Reading.{most_bytes, HasReport, HasNoReport, IsReportFile}
use Rattle.check_mode.specs.Verdicts.{AreFirstVerdicts, any_no, verdict_lines, verdicts_text}

-- What was read is a report, and the verdicts of all its entries were written, and then their number; `found` says
-- whether one of them is no.
pub record Judged (read wrote : List ℕ) (found : Bool) : Type 0 where
  pub report : Report
  pub has_report : HasReport read report
  pub verdicts : List Verdict
  pub are_verdicts : AreVerdicts report.entries verdicts
  pub text : wrote ≡ verdicts_text report.entries verdicts
  pub finding : any_no verdicts ≡ found

-- the lines of the verdicts of the first entries; the last line only behind those of all
abbrev pub done_if : Bool → ℕ → List ℕ
done_if true count = done_text count
done_if false count = []

abbrev pub begun_text : List Entry → List Verdict → List ℕ
begun_text entries verdicts = verdict_lines entries verdicts ++ done_if (length verdicts == length entries) (length entries)

-- What was read is a report, and the first bytes were written of the lines of the verdicts of some first entries. So
-- they are the first bytes of the text that is due.
pub record JudgedInPart (read wrote : List ℕ) : Type 0 where
  pub report : Report
  pub has_report : HasReport read report
  pub verdicts : List Verdict
  pub are_verdicts : AreFirstVerdicts report.entries verdicts
  pub front : IsPrefixOf (begun_text report.entries verdicts) wrote
  pub due : (all : List Verdict) → AreVerdicts report.entries all → IsPrefixOf (verdicts_text report.entries all) wrote

-- what was read is a report, and the whole lines of the verdicts of its first entries were written
pub record JudgedFirst (read wrote : List ℕ) : Type 0 where
  pub report : Report
  pub has_report : HasReport read report
  pub verdicts : List Verdict
  pub are_verdicts : AreFirstVerdicts report.entries verdicts
  pub text : wrote ≡ verdict_lines report.entries verdicts

-- What each code says, of the line of the answer, of the bytes that were read and those that were written, and of how
-- the source and the sink stood before and stand now.
abbrev pub CheckMeans : Code → ℕ → List ℕ → List ℕ → Intake → Intake → Outlet → Outlet → Type 0
CheckMeans Done line read wrote from from' to to' = (from'.ended ≡ true) × Judged read wrote false × (line ≡ 0)
CheckMeans Findings line read wrote from from' to to' = (from'.ended ≡ true) × Judged read wrote true × (line ≡ 0)
CheckMeans Usage line read wrote from from' to to' = ⊥
CheckMeans TooLong line read wrote from from' to to' = (length read ≡ most_bytes + 1) × (to' ≡ to) × (line ≡ 0)
CheckMeans NoHeader line read wrote from from' to to' = ⊥
CheckMeans TooManyRows line read wrote from from' to to' = ⊥
CheckMeans BadReport line read wrote from from' to to' = (from'.ended ≡ true) × (to' ≡ to) × HasNoReport read line
CheckMeans ReadFault line read wrote from from' to to' = (length read ≤ most_bytes) × Rose from.faults from'.faults × (to' ≡ to) × (line ≡ 0)
CheckMeans WriteFault line read wrote from from' to to' = (from'.ended ≡ true) × JudgedInPart read wrote × Rose to.faults to'.faults × (line ≡ 0)
CheckMeans Memory line read wrote from from' to to' = ((to' ≡ to) ⊎ ((from'.ended ≡ true) × JudgedFirst read wrote)) × (to'.faults ≡ to.faults) × (from'.faults ≡ from.faults) × (length read ≤ most_bytes + 1) × (line ≡ 0)

-- What a run of `check` did, with any number of workers, between two moments of its streams.
pub record CheckRan (from : Intake) (to : Outlet) (code : Code) (line : ℕ) (from' : Intake) (to' : Outlet) : Type 0 where
  -- all bytes that it read, and all that it wrote
  pub read : List ℕ
  pub wrote : List ℕ
  pub given : from'.given ≡ from.given ++ read
  pub taken : to'.taken ≡ to.taken ++ wrote
  -- the counts of faults never fall
  pub source_later : from.faults ≤ from'.faults
  pub sink_later : to.faults ≤ to'.faults
  pub means : CheckMeans code line read wrote from from' to to'

-- Where no count of faults rose, and what was read is a report, nothing but memory was lacking.
abbrev pub ChecksAreComplete : Type 0
ChecksAreComplete = (from : Intake) (to : Outlet) (code : Code) (line : ℕ) (from' : Intake) (to' : Outlet) (ran : CheckRan from to code line from' to')
    → (Rose from.faults from'.faults → ⊥) → (Rose to.faults to'.faults → ⊥) → IsReportFile ran.read → IsDoneOrMemory code
