-- Whether the bytes that were read are a floors file: a header, and at most so many rows under it.
use Rattle.std.specs.Prelude.{ℕ, ◌+◌, ◌<◌, ◌≤◌, ◌≡◌, true, List, ◌++◌, length, Some, None, IsSomeAnd}
use Rattle.plan_io.specs.Streams.{Intake}
use Rattle.plan_io.specs.Causes.{Rose}
use Rattle.run_parts.specs.declared.codes.Code.{Code}
use Rattle.run_parts.specs.declared.codes.Code.TheVariants as codes
use Rattle.order_reader.specs.Records.{Fields}
use Rattle.order_reader.specs.declared.rows.Row.{Row}
use Rattle.truck_floor.specs.FloorRows.{floors_of, rows_of_floors}

-- how many bytes a floors file may have, and how many rows
abbrev pub most_bytes : ℕ
most_bytes = 262144

abbrev pub most_floors : ℕ
most_floors = 128

-- the bytes are no more than a file may have, with no more rows under the header, and these are the two orders of each
pub record HasFloors (bytes : List ℕ) (rows : List Row) : Type 0 where
  pub few_bytes : length bytes ≤ most_bytes
  pub floors : List Fields
  pub are_floors : floors_of bytes ≡ Some floors
  pub few_floors : length floors ≤ most_floors
  pub rows_are : rows ≡ rows_of_floors floors

-- the first record is not the header, or there is none
pub record HasNoFloorsHeader (bytes : List ℕ) : Type 0 where
  pub few_bytes : length bytes ≤ most_bytes
  pub no_floors : floors_of bytes ≡ None

-- more rows follow the header than a file may have
pub record HasTooManyFloors (bytes : List ℕ) : Type 0 where
  pub few_bytes : length bytes ≤ most_bytes
  pub too_many : IsSomeAnd (floors_of bytes) (λ floors. most_floors < length floors)

-- What each code says of the bytes that were read where they gave no rows, and of how the source stands then.
abbrev pub NoFloorsMeans : Code → List ℕ → Intake → Intake → Type 0
NoFloorsMeans codes.Done read from from' = ⊥
NoFloorsMeans codes.Findings read from from' = ⊥
NoFloorsMeans codes.Usage read from from' = ⊥
NoFloorsMeans codes.TooLong read from from' = length read ≡ most_bytes + 1
NoFloorsMeans codes.NoHeader read from from' = (from'.ended ≡ true) × HasNoFloorsHeader read
NoFloorsMeans codes.TooManyRows read from from' = (from'.ended ≡ true) × HasTooManyFloors read
NoFloorsMeans codes.BadReport read from from' = ⊥
NoFloorsMeans codes.ReadFault read from from' = (length read ≤ most_bytes) × Rose from.faults from'.faults
NoFloorsMeans codes.WriteFault read from from' = ⊥
NoFloorsMeans codes.Memory read from from' = length read ≤ most_bytes + 1

-- What was read between two moments of a source gave no rows, with this code.
pub record FoundNoFloors (from : Intake) (code : Code) (from' : Intake) : Type 0 where
  pub read : List ℕ
  pub given : from'.given ≡ from.given ++ read
  pub later : from.faults ≤ from'.faults
  pub means : NoFloorsMeans code read from from'
