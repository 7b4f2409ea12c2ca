-- What a run that writes the page of a report did, by the code that it gave.
use Rattle.std.specs.Prelude.{ℕ, ◌+◌, ◌≡◌, ◌≤◌, ◌⊎◌, true, List, [], ◌∷◌, ◌++◌, length, take}
use Rattle.std.specs.List.{concat}
use Rattle.plan_io.specs.Causes.{Rose}
use Rattle.plan_io.specs.Streams.{Intake, Outlet}
use Rattle.run_parts.specs.Codes.{IsQuietOrMemory}
use Rattle.run_parts.specs.Written.{IsPrefixOf}
use Rattle.run_parts.specs.declared.codes.Code.{Code}
use Rattle.run_parts.specs.declared.codes.Code.TheVariants.{Done, Findings, Usage, TooLong, NoHeader, TooManyRows, BadReport, ReadFault, WriteFault, Memory}
use Rattle.report_text.specs.Reports.{Report}
use Rattle.report_reading.specs.Reading.{most_bytes, HasReport, HasNoReport, IsReportFile}
use Rattle.page_text.specs.Page.{pieces_of, page_of}

-- What was read is a report, of either form, and the page of its very entries was written. Nothing is said of whether the
-- report is right.
pub record Paged (read wrote : List ℕ) : Type 0 where
  pub report : Report
  pub has_report : HasReport read report
  pub text : wrote ≡ page_of report.entries

-- what was read is a report, and the first bytes of its page were written
pub record PagedInPart (read wrote : List ℕ) : Type 0 where
  pub report : Report
  pub has_report : HasReport read report
  pub front : IsPrefixOf (page_of report.entries) wrote

-- what was read is a report, and so many first pieces of its page were written whole: the top, sheets, and the closing
pub record PagedFirst (read wrote : List ℕ) : Type 0 where
  pub report : Report
  pub has_report : HasReport read report
  pub pieces : ℕ
  pub text : wrote ≡ concat (take pieces (pieces_of report.entries))

-- What each code says, of the line of the answer, of the bytes that were read and those that were written, and of how
-- the source and the sink stood before and stand now.
abbrev pub PageMeans : Code → ℕ → List ℕ → List ℕ → Intake → Intake → Outlet → Outlet → Type 0
PageMeans Done line read wrote from from' to to' = (from'.ended ≡ true) × Paged read wrote × (line ≡ 0)
PageMeans Findings line read wrote from from' to to' = ⊥
PageMeans Usage line read wrote from from' to to' = ⊥
PageMeans TooLong line read wrote from from' to to' = (length read ≡ most_bytes + 1) × (to' ≡ to) × (line ≡ 0)
PageMeans NoHeader line read wrote from from' to to' = ⊥
PageMeans TooManyRows line read wrote from from' to to' = ⊥
PageMeans BadReport line read wrote from from' to to' = (from'.ended ≡ true) × (to' ≡ to) × HasNoReport read line
PageMeans ReadFault line read wrote from from' to to' = (length read ≤ most_bytes) × Rose from.faults from'.faults × (to' ≡ to) × (line ≡ 0)
PageMeans WriteFault line read wrote from from' to to' = (from'.ended ≡ true) × PagedInPart read wrote × Rose to.faults to'.faults × (line ≡ 0)
PageMeans Memory line read wrote from from' to to' = ((to' ≡ to) ⊎ ((from'.ended ≡ true) × PagedFirst read wrote)) × (to'.faults ≡ to.faults) × (from'.faults ≡ from.faults) × (length read ≤ most_bytes + 1) × (line ≡ 0)

-- What a run that writes the page of a report did, between two moments of its streams.
pub record PageRan (from : Intake) (to : Outlet) (code : Code) (line : ℕ) (from' : Intake) (to' : Outlet) : Type 0 where
  -- all bytes that it read, and all that it wrote
  pub read : List ℕ
  pub wrote : List ℕ
  pub given : from'.given ≡ from.given ++ read
  pub taken : to'.taken ≡ to.taken ++ wrote
  -- the counts of faults never fall
  pub source_later : from.faults ≤ from'.faults
  pub sink_later : to.faults ≤ to'.faults
  pub means : PageMeans code line read wrote from from' to to'

-- Where no count of faults rose, and what was read is a report, nothing but memory was lacking.
abbrev pub PagesAreComplete : Type 0
PagesAreComplete = (from : Intake) (to : Outlet) (code : Code) (line : ℕ) (from' : Intake) (to' : Outlet) (ran : PageRan from to code line from' to')
    → (Rose from.faults from'.faults → ⊥) → (Rose to.faults to'.faults → ⊥) → IsReportFile ran.read → IsQuietOrMemory code
