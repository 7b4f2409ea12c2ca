-- What follows of a run of `trial`.
use Rattle.std.specs.Prelude.{ℕ}
use Rattle.plan_io.specs.Streams.{Outlet}
use Rattle.plan_io.specs.Causes.{Rose}
use Rattle.run_parts.specs.Codes.{IsQuietOrMemory}
use Rattle.run_parts.specs.declared.codes.Code.{Code}
use Rattle.trial_mode.specs.Runs.{TrialRan}

-- Where the count of faults did not rise, a run lacked nothing but memory.
abbrev pub TrialsAreComplete : Type 0
TrialsAreComplete = (number : ℕ) (to : Outlet) (code : Code) (to' : Outlet)
    → TrialRan number to code to' → ¬ Rose to.faults to'.faults → IsQuietOrMemory code
