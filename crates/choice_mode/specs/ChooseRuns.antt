-- What a run of `choose` did, between two moments of its source and its sink.
use Rattle.std.specs.Prelude.{ℕ, ◌+◌, ◌≤◌, ◌≡◌, ◌⊎◌, true, false, List, ◌++◌, length}
use Rattle.plan_io.specs.Streams.{Intake, Outlet}
use Rattle.plan_io.specs.Causes.{Rose}
use Rattle.run_parts.specs.declared.codes.Code.{Code}
use Rattle.run_parts.specs.declared.codes.Code.TheVariants.{Done, Findings, Usage, TooLong, NoHeader, TooManyRows, BadReport, ReadFault, WriteFault, Memory}
use Rattle.plan_mode.specs.OrdersFiles.{most_bytes, HasNoHeader, HasTooManyRows}
use Rattle.choice_mode.specs.Choosing.{ChoiceReported, ChoiceBegun, ChoiceBrokeOff}

-- What each code says of the bytes that were read and of those that were written, and of how both streams stand then.
abbrev pub ChooseMeans : Code → List ℕ → List ℕ → Intake → Intake → Outlet → Outlet → Type 0
ChooseMeans Done read wrote from from' to to' = (from'.ended ≡ true) × ChoiceReported read wrote false
ChooseMeans Findings read wrote from from' to to' = (from'.ended ≡ true) × ChoiceReported read wrote true
ChooseMeans Usage read wrote from from' to to' = ⊥
ChooseMeans TooLong read wrote from from' to to' = (length read ≡ most_bytes + 1) × (to' ≡ to)
ChooseMeans NoHeader read wrote from from' to to' = (from'.ended ≡ true) × HasNoHeader read × (to' ≡ to)
ChooseMeans TooManyRows read wrote from from' to to' = (from'.ended ≡ true) × HasTooManyRows read × (to' ≡ to)
ChooseMeans BadReport read wrote from from' to to' = ⊥
ChooseMeans ReadFault read wrote from from' to to' = (length read ≤ most_bytes) × Rose from.faults from'.faults × (to' ≡ to)
ChooseMeans WriteFault read wrote from from' to to' = (from'.ended ≡ true) × ChoiceBegun read wrote × Rose to.faults to'.faults
ChooseMeans Memory read wrote from from' to to' =
    ((to' ≡ to) ⊎ ((from'.ended ≡ true) × ChoiceBrokeOff read wrote)) × (to'.faults ≡ to.faults) × (length read ≤ most_bytes + 1)

-- A run of `choose` that gave this code.
pub record ChooseRan (from : Intake) (to : Outlet) (code : Code) (from' : Intake) (to' : Outlet) : Type 0 where
  -- all bytes that it read, and all that it wrote
  pub read : List ℕ
  pub wrote : List ℕ
  pub given : from'.given ≡ from.given ++ read
  pub taken : to'.taken ≡ to.taken ++ wrote
  -- neither count of faults fell
  pub source_later : from.faults ≤ from'.faults
  pub sink_later : to.faults ≤ to'.faults
  pub means : ChooseMeans code read wrote from from' to to'
