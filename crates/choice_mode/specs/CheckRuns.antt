-- What a run of `check-choice` did, between two moments of its source and its sink.
use Rattle.std.specs.Prelude.{ℕ, ◌+◌, ◌≡◌, ◌≤◌, ◌⊎◌, true, false, List, ◌++◌, length}
use Rattle.plan_io.specs.Causes.{Rose}
use Rattle.plan_io.specs.Streams.{Intake, Outlet}
use Rattle.run_parts.specs.declared.codes.Code.{Code}
use Rattle.run_parts.specs.declared.codes.Code.TheVariants.{Done, Findings, Usage, TooLong, NoHeader, TooManyRows, BadReport, ReadFault, WriteFault, Memory}
use Rattle.report_reading.specs.Reading.{most_bytes}
use Rattle.choice_mode.specs.Reading.{HasNoChoice}
use Rattle.choice_mode.specs.Judging.{ChoiceJudged, ChoiceJudgedInPart, ChoiceJudgedFirst}

-- What each code says, of the line of the answer, of the bytes that were read and those that were written, and of how
-- the source and the sink stood before and stand now.
abbrev pub CheckChoiceMeans : Code → ℕ → List ℕ → List ℕ → Intake → Intake → Outlet → Outlet → Type 0
CheckChoiceMeans Done line read wrote from from' to to' = (from'.ended ≡ true) × ChoiceJudged read wrote false × (line ≡ 0)
CheckChoiceMeans Findings line read wrote from from' to to' = (from'.ended ≡ true) × ChoiceJudged read wrote true × (line ≡ 0)
CheckChoiceMeans Usage line read wrote from from' to to' = ⊥
CheckChoiceMeans TooLong line read wrote from from' to to' = (length read ≡ most_bytes + 1) × (to' ≡ to) × (line ≡ 0)
CheckChoiceMeans NoHeader line read wrote from from' to to' = ⊥
CheckChoiceMeans TooManyRows line read wrote from from' to to' = ⊥
CheckChoiceMeans BadReport line read wrote from from' to to' = (from'.ended ≡ true) × (to' ≡ to) × HasNoChoice read line
CheckChoiceMeans ReadFault line read wrote from from' to to' = (length read ≤ most_bytes) × Rose from.faults from'.faults × (to' ≡ to) × (line ≡ 0)
CheckChoiceMeans WriteFault line read wrote from from' to to' = (from'.ended ≡ true) × ChoiceJudgedInPart read wrote × Rose to.faults to'.faults × (line ≡ 0)
CheckChoiceMeans Memory line read wrote from from' to to' =
    ((to' ≡ to) ⊎ ((from'.ended ≡ true) × ChoiceJudgedFirst read wrote)) × (to'.faults ≡ to.faults) × (from'.faults ≡ from.faults) × (length read ≤ most_bytes + 1) × (line ≡ 0)

-- A run of `check-choice` that gave this code and this line.
pub record CheckChoiceRan (from : Intake) (to : Outlet) (code : Code) (line : ℕ) (from' : Intake) (to' : Outlet) : Type 0 where
  -- all bytes that it read, and all that it wrote
  pub read : List ℕ
  pub wrote : List ℕ
  pub given : from'.given ≡ from.given ++ read
  pub taken : to'.taken ≡ to.taken ++ wrote
  -- neither count of faults fell
  pub source_later : from.faults ≤ from'.faults
  pub sink_later : to.faults ≤ to'.faults
  pub means : CheckChoiceMeans code line read wrote from from' to to'
