-- What a run of `design` did, between two moments of its source and its sink.
use Rattle.std.specs.Prelude.{ℕ, ◌+◌, ◌≤◌, ◌≡◌, ◌⊎◌, true, false, List, ◌++◌, length}
use Rattle.plan_io.specs.Streams.{Intake, Outlet}
use Rattle.plan_io.specs.Causes.{Rose}
use Rattle.run_parts.specs.declared.codes.Code.{Code}
use Rattle.run_parts.specs.declared.codes.Code.TheVariants.{Done, Findings, Usage, TooLong, NoHeader, TooManyRows, BadReport, ReadFault, WriteFault, Memory}
use Rattle.design_mode.specs.DesignFiles.{most_bytes, HasNoDesignHeader, HasManyDesigns}
use Rattle.design_mode.specs.Designing.{DesignReported, DesignBegun, DesignBrokeOff}

-- What each code says of the bytes that were read and of those that were written, and of how both streams stand then.
abbrev pub DesignMeans : Code → List ℕ → List ℕ → Intake → Intake → Outlet → Outlet → Type 0
DesignMeans Done read wrote from from' to to' = (from'.ended ≡ true) × DesignReported read wrote false
DesignMeans Findings read wrote from from' to to' = (from'.ended ≡ true) × DesignReported read wrote true
DesignMeans Usage read wrote from from' to to' = ⊥
DesignMeans TooLong read wrote from from' to to' = (length read ≡ most_bytes + 1) × (to' ≡ to)
DesignMeans NoHeader read wrote from from' to to' = (from'.ended ≡ true) × HasNoDesignHeader read × (to' ≡ to)
DesignMeans TooManyRows read wrote from from' to to' = (from'.ended ≡ true) × HasManyDesigns read × (to' ≡ to)
DesignMeans BadReport read wrote from from' to to' = ⊥
DesignMeans ReadFault read wrote from from' to to' = (length read ≤ most_bytes) × Rose from.faults from'.faults × (to' ≡ to)
DesignMeans WriteFault read wrote from from' to to' = (from'.ended ≡ true) × DesignBegun read wrote × Rose to.faults to'.faults
DesignMeans Memory read wrote from from' to to' =
    ((to' ≡ to) ⊎ ((from'.ended ≡ true) × DesignBrokeOff read wrote)) × (to'.faults ≡ to.faults) × (length read ≤ most_bytes + 1)

-- A run of `design` that gave this code.
pub record DesignRan (from : Intake) (to : Outlet) (code : Code) (from' : Intake) (to' : Outlet) : Type 0 where
  -- all bytes that it read, and all that it wrote
  pub read : List ℕ
  pub wrote : List ℕ
  pub given : from'.given ≡ from.given ++ read
  pub taken : to'.taken ≡ to.taken ++ wrote
  -- neither count of faults fell
  pub source_later : from.faults ≤ from'.faults
  pub sink_later : to.faults ≤ to'.faults
  pub means : DesignMeans code read wrote from from' to to'
