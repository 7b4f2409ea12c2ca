-- What follows of a run of `plan`.
use Rattle.std.specs.Prelude.{Bool, List}
use Rattle.plan_io.specs.Streams.{Intake, Outlet}
use Rattle.plan_io.specs.Causes.{Rose}
use Rattle.run_parts.specs.Codes.{IsDoneOrMemory}
use Rattle.run_parts.specs.declared.codes.Code.{Code}
use Rattle.order_reader.specs.declared.rows.Row.{Row}
use Rattle.plan_mode.specs.OrdersFiles.{HasRows}
use Rattle.plan_mode.specs.Runs.{PlanRan}

-- Where what was read is an orders file within its limits, and no count of faults rose, a run lacked nothing but memory.
abbrev pub PlansAreComplete : Type 0
PlansAreComplete =
    (draw : Bool) (from : Intake) (to : Outlet) (code : Code) (from' : Intake) (to' : Outlet)
    (ran : PlanRan draw from to code from' to') (rows : List Row)
    → HasRows ran.read rows → ¬ Rose from.faults from'.faults → ¬ Rose to.faults to'.faults → IsDoneOrMemory code
