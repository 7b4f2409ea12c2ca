-- What a run of `check-floor` did, between two moments of its source and its sink.
use Rattle.std.specs.Prelude.{ℕ, ◌+◌, ◌≡◌, ◌≤◌, ◌⊎◌, true, false, List, ◌++◌, length}
use Rattle.plan_io.specs.Causes.{Rose}
use Rattle.plan_io.specs.Streams.{Intake, Outlet}
use Rattle.run_parts.specs.declared.codes.Code.{Code}
use Rattle.run_parts.specs.declared.codes.Code.TheVariants.{Done, Findings, Usage, TooLong, NoHeader, TooManyRows, BadReport, ReadFault, WriteFault, Memory}
use Rattle.report_reading.specs.Reading.{most_bytes}
use Rattle.floor_mode.specs.Reading.{HasNoFloorText}
use Rattle.floor_mode.specs.Judging.{FloorJudged, FloorJudgedInPart, FloorJudgedFirst}

-- What each code says, of the line of the answer, of the bytes that were read and those that were written, and of how
-- the source and the sink stood before and stand now.
abbrev pub CheckFloorMeans : Code → ℕ → List ℕ → List ℕ → Intake → Intake → Outlet → Outlet → Type 0
CheckFloorMeans Done line read wrote from from' to to' = (from'.ended ≡ true) × FloorJudged read wrote false × (line ≡ 0)
CheckFloorMeans Findings line read wrote from from' to to' = (from'.ended ≡ true) × FloorJudged read wrote true × (line ≡ 0)
CheckFloorMeans Usage line read wrote from from' to to' = ⊥
CheckFloorMeans TooLong line read wrote from from' to to' = (length read ≡ most_bytes + 1) × (to' ≡ to) × (line ≡ 0)
CheckFloorMeans NoHeader line read wrote from from' to to' = ⊥
CheckFloorMeans TooManyRows line read wrote from from' to to' = ⊥
CheckFloorMeans BadReport line read wrote from from' to to' = (from'.ended ≡ true) × (to' ≡ to) × HasNoFloorText read line
CheckFloorMeans ReadFault line read wrote from from' to to' = (length read ≤ most_bytes) × Rose from.faults from'.faults × (to' ≡ to) × (line ≡ 0)
CheckFloorMeans WriteFault line read wrote from from' to to' = (from'.ended ≡ true) × FloorJudgedInPart read wrote × Rose to.faults to'.faults × (line ≡ 0)
CheckFloorMeans Memory line read wrote from from' to to' =
    ((to' ≡ to) ⊎ ((from'.ended ≡ true) × FloorJudgedFirst read wrote)) × (to'.faults ≡ to.faults) × (from'.faults ≡ from.faults) × (length read ≤ most_bytes + 1) × (line ≡ 0)

-- A run of `check-floor` that gave this code and this line.
pub record CheckFloorRan (from : Intake) (to : Outlet) (code : Code) (line : ℕ) (from' : Intake) (to' : Outlet) : Type 0 where
  -- all bytes that it read, and all that it wrote
  pub read : List ℕ
  pub wrote : List ℕ
  pub given : from'.given ≡ from.given ++ read
  pub taken : to'.taken ≡ to.taken ++ wrote
  -- neither count of faults fell
  pub source_later : from.faults ≤ from'.faults
  pub sink_later : to.faults ≤ to'.faults
  pub means : CheckFloorMeans code line read wrote from from' to to'
