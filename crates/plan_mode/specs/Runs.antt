-- What a run of `plan` did, between two moments of its source and its sink.
use Rattle.std.specs.Prelude.{ℕ, ◌+◌, ◌≤◌, ◌≡◌, ◌⊎◌, Bool, true, false, List, ◌++◌, length}
use Rattle.plan_io.specs.Streams.{Intake, Outlet}
use Rattle.plan_io.specs.Causes.{Rose}
use Rattle.run_parts.specs.declared.codes.Code.{Code}
use Rattle.run_parts.specs.declared.codes.Code.TheVariants.{Done, Findings, Usage, TooLong, NoHeader, TooManyRows, BadReport, ReadFault, WriteFault, Memory}
use Rattle.plan_mode.specs.OrdersFiles.{most_bytes, HasNoHeader, HasTooManyRows}
use Rattle.plan_mode.specs.Reports.{Reported, Begun, BrokeOff}

-- What each code says of the bytes that were read and of those that were written, and of how both streams stand then.
abbrev pub PlanMeans : Bool → Code → List ℕ → List ℕ → Intake → Intake → Outlet → Outlet → Type 0
PlanMeans draw Done read wrote from from' to to' = (from'.ended ≡ true) × Reported draw read wrote false
PlanMeans draw Findings read wrote from from' to to' = (from'.ended ≡ true) × Reported draw read wrote true
PlanMeans draw Usage read wrote from from' to to' = ⊥
PlanMeans draw TooLong read wrote from from' to to' = (length read ≡ most_bytes + 1) × (to' ≡ to)
PlanMeans draw NoHeader read wrote from from' to to' = (from'.ended ≡ true) × HasNoHeader read × (to' ≡ to)
PlanMeans draw TooManyRows read wrote from from' to to' = (from'.ended ≡ true) × HasTooManyRows read × (to' ≡ to)
PlanMeans draw BadReport read wrote from from' to to' = ⊥
PlanMeans draw ReadFault read wrote from from' to to' = (length read ≤ most_bytes) × Rose from.faults from'.faults × (to' ≡ to)
PlanMeans draw WriteFault read wrote from from' to to' = (from'.ended ≡ true) × Begun draw read wrote × Rose to.faults to'.faults
PlanMeans draw Memory read wrote from from' to to' =
    ((to' ≡ to) ⊎ ((from'.ended ≡ true) × BrokeOff draw read wrote)) × (to'.faults ≡ to.faults) × (length read ≤ most_bytes + 1)

-- A run of `plan`, with drawings or without, that gave this code.
pub record PlanRan (draw : Bool) (from : Intake) (to : Outlet) (code : Code) (from' : Intake) (to' : Outlet) : Type 0 where
  -- all bytes that it read, and all that it wrote
  pub read : List ℕ
  pub wrote : List ℕ
  pub given : from'.given ≡ from.given ++ read
  pub taken : to'.taken ≡ to.taken ++ wrote
  -- neither count of faults fell
  pub source_later : from.faults ≤ from'.faults
  pub sink_later : to.faults ≤ to'.faults
  pub means : PlanMeans draw code read wrote from from' to to'
