-- What a run of `floor` did, between two moments of its source and its sink.
use Rattle.std.specs.Prelude.{ℕ, ◌+◌, ◌≤◌, ◌≡◌, ◌⊎◌, true, false, List, ◌++◌, length}
use Rattle.plan_io.specs.Streams.{Intake, Outlet}
use Rattle.plan_io.specs.Causes.{Rose}
use Rattle.run_parts.specs.declared.codes.Code.{Code}
use Rattle.run_parts.specs.declared.codes.Code.TheVariants.{Done, Findings, Usage, TooLong, NoHeader, TooManyRows, BadReport, ReadFault, WriteFault, Memory}
use Rattle.floor_mode.specs.FloorsFiles.{most_bytes, HasNoFloorsHeader, HasTooManyFloors}
use Rattle.floor_mode.specs.Planning.{FloorReported, FloorBegun, FloorBrokeOff}

-- What each code says of the bytes that were read and of those that were written, and of how both streams stand then.
abbrev pub FloorMeans : Code → List ℕ → List ℕ → Intake → Intake → Outlet → Outlet → Type 0
FloorMeans Done read wrote from from' to to' = (from'.ended ≡ true) × FloorReported read wrote false
FloorMeans Findings read wrote from from' to to' = (from'.ended ≡ true) × FloorReported read wrote true
FloorMeans Usage read wrote from from' to to' = ⊥
FloorMeans TooLong read wrote from from' to to' = (length read ≡ most_bytes + 1) × (to' ≡ to)
FloorMeans NoHeader read wrote from from' to to' = (from'.ended ≡ true) × HasNoFloorsHeader read × (to' ≡ to)
FloorMeans TooManyRows read wrote from from' to to' = (from'.ended ≡ true) × HasTooManyFloors read × (to' ≡ to)
FloorMeans BadReport read wrote from from' to to' = ⊥
FloorMeans ReadFault read wrote from from' to to' = (length read ≤ most_bytes) × Rose from.faults from'.faults × (to' ≡ to)
FloorMeans WriteFault read wrote from from' to to' = (from'.ended ≡ true) × FloorBegun read wrote × Rose to.faults to'.faults
FloorMeans Memory read wrote from from' to to' =
    ((to' ≡ to) ⊎ ((from'.ended ≡ true) × FloorBrokeOff read wrote)) × (to'.faults ≡ to.faults) × (length read ≤ most_bytes + 1)

-- A run of `floor` that gave this code.
pub record FloorRan (from : Intake) (to : Outlet) (code : Code) (from' : Intake) (to' : Outlet) : Type 0 where
  -- all bytes that it read, and all that it wrote
  pub read : List ℕ
  pub wrote : List ℕ
  pub given : from'.given ≡ from.given ++ read
  pub taken : to'.taken ≡ to.taken ++ wrote
  -- neither count of faults fell
  pub source_later : from.faults ≤ from'.faults
  pub sink_later : to.faults ≤ to'.faults
  pub means : FloorMeans code read wrote from from' to to'
