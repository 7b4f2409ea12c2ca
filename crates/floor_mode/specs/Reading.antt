-- Whether the bytes that were read are the text of a floor.
use Rattle.std.specs.Prelude.{ℕ, ◌+◌, ◌≤◌, ◌≡◌, true, List, ◌++◌, length}
use Rattle.texts.specs.Spelling.{FaultsAt}
use Rattle.plan_io.specs.Causes.{Rose}
use Rattle.plan_io.specs.Streams.{Intake}
use Rattle.run_parts.specs.declared.codes.Code.{Code}
use Rattle.run_parts.specs.declared.codes.Code.TheVariants.{Done, Findings, Usage, TooLong, NoHeader, TooManyRows, BadReport, ReadFault, WriteFault, Memory}
use Rattle.report_reading.specs.Reading.{most_bytes}
use Rattle.floor_text.specs.declared.rows.FloorRow.{FloorRow}
use Rattle.floor_text.specs.Text.{floor_lines, IsFloor, IsFloorIn}

-- the bytes are the text of these rows, and no longer than a report may be
pub record HasFloorText (bytes : List ℕ) (rows : List FloorRow) : Type 0 where
  pub few_bytes : length bytes ≤ most_bytes
  pub is_floor : IsFloorIn bytes rows

-- the bytes are the text of some floor
abbrev pub IsFloorBytes : List ℕ → Type 0
IsFloorBytes bytes = (rows : List FloorRow) × HasFloorText bytes rows

-- the bytes, no more than a report may have, are the text of no floor, and this is the first line, from 1, with which none
-- goes on
pub record HasNoFloorText (bytes : List ℕ) (line : ℕ) : Type 0 where
  pub few_bytes : length bytes ≤ most_bytes
  pub none : (rows : List FloorRow) → IsFloorIn bytes rows → ⊥
  pub fault : FaultsAt floor_lines IsFloor bytes line

-- What each code says of a run that got no floor, of the bytes that it read, and of how the source stood before and
-- stands now.
abbrev pub NoFloorMeans : Code → ℕ → List ℕ → Intake → Intake → Type 0
NoFloorMeans Done line read from from' = ⊥
NoFloorMeans Findings line read from from' = ⊥
NoFloorMeans Usage line read from from' = ⊥
NoFloorMeans TooLong line read from from' = (length read ≡ most_bytes + 1) × (line ≡ 0)
NoFloorMeans NoHeader line read from from' = ⊥
NoFloorMeans TooManyRows line read from from' = ⊥
NoFloorMeans BadReport line read from from' = (from'.ended ≡ true) × HasNoFloorText read line
NoFloorMeans ReadFault line read from from' = (length read ≤ most_bytes) × Rose from.faults from'.faults × (line ≡ 0)
NoFloorMeans WriteFault line read from from' = ⊥
NoFloorMeans Memory line read from from' = (from'.faults ≡ from.faults) × (length read ≤ most_bytes + 1) × (line ≡ 0)

-- what a run did that got no floor, between two moments of its source
pub record GotNoFloor (from : Intake) (code : Code) (line : ℕ) (from' : Intake) : Type 0 where
  pub read : List ℕ
  pub given : from'.given ≡ from.given ++ read
  pub later : from.faults ≤ from'.faults
  pub means : NoFloorMeans code line read from from'
