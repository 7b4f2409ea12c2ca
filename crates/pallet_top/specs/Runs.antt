-- What a run of each mode does between two moments of its streams, and the sentences that follow from it.
use Rattle.std.specs.Prelude.{ℕ, ◌≡◌, ◌≢◌, ◌≤◌, ◌++◌, ⊤, List}
use Rattle.plan_io.specs.Causes.{Rose}
use Rattle.plan_io.specs.Streams.{Intake, Outlet}
use Rattle.run_parts.specs.Codes.{WritesNothing, IsDoneOrMemory, IsQuietOrMemory}
use Rattle.run_parts.specs.declared.codes.Code.{Code}
use Rattle.run_parts.specs.declared.codes.Code.TheVariants.{BadReport, ReadFault, WriteFault}
use Rattle.command_words.specs.declared.modes.Mode.{Mode}
use Rattle.command_words.specs.declared.modes.Mode.TheVariants.{Plan, Check, Upgrade, Choose, CheckChoice, Design, Floor, CheckFloor, Trial}
use Rattle.order_reader.specs.declared.rows.Row.{Row}
use Rattle.plan_mode.specs.OrdersFiles.{HasRows}
use Rattle.plan_mode.specs.Runs.{PlanRan}
use Rattle.report_reading.specs.Reading.{IsReportFile}
use Rattle.check_mode.specs.Checks.{CheckRan}
use Rattle.check_mode.specs.Upgrades.{UpgradeRan}
use Rattle.choice_mode.specs.Reading.{IsChoiceBytes}
use Rattle.choice_mode.specs.ChooseRuns.{ChooseRan}
use Rattle.choice_mode.specs.CheckRuns.{CheckChoiceRan}
use Rattle.case_design.specs.declared.designs.Design as asked
use Rattle.design_mode.specs.DesignFiles.{HasDesign}
use Rattle.design_mode.specs.DesignRuns.{DesignRan}
use Rattle.floor_mode.specs.FloorsFiles.{HasFloors}
use Rattle.floor_mode.specs.Reading.{IsFloorBytes}
use Rattle.floor_mode.specs.FloorRuns.{FloorRan}
use Rattle.floor_mode.specs.CheckRuns.{CheckFloorRan}
use Rattle.trial_mode.specs.Runs.{TrialRan}

-- What a run of a mode did: from the moment at which it began, by its code and line, to the moment at which it ended.
abbrev pub Ran : Mode → Intake → Outlet → Code → ℕ → Intake → Outlet → Type 0
Ran (Plan draw workers) from to code line from' to' = PlanRan draw from to code from' to' × (line ≡ 0)
Ran (Check workers) from to code line from' to' = CheckRan from to code line from' to'
Ran Upgrade from to code line from' to' = UpgradeRan from to code line from' to'
Ran Choose from to code line from' to' = ChooseRan from to code from' to' × (line ≡ 0)
Ran CheckChoice from to code line from' to' = CheckChoiceRan from to code line from' to'
Ran (Design workers) from to code line from' to' = DesignRan from to code from' to' × (line ≡ 0)
Ran Floor from to code line from' to' = FloorRan from to code from' to' × (line ≡ 0)
Ran CheckFloor from to code line from' to' = CheckFloorRan from to code line from' to'
Ran (Trial number) from to code line from' to' = TrialRan number to code to' × ((from' ≡ from) × (line ≡ 0))

-- nothing is written with the codes 2 to 7
abbrev pub NothingIsWritten : Type 0
NothingIsWritten = (mode : Mode) (from : Intake) (to : Outlet) (code : Code) (line : ℕ) (from' : Intake) (to' : Outlet)
    → Ran mode from to code line from' to' → WritesNothing code → to' ≡ to

-- a fault is told only where the count of that stream's faults rose, and no count falls
pub record HasCauses (code : Code) (from from' : Intake) (to to' : Outlet) : Type 0 where
  pub read : code ≡ ReadFault → Rose from.faults from'.faults
  pub write : code ≡ WriteFault → Rose to.faults to'.faults
  pub source_later : from.faults ≤ from'.faults
  pub sink_later : to.faults ≤ to'.faults

abbrev pub FaultsHaveTheirCause : Type 0
FaultsHaveTheirCause = (mode : Mode) (from : Intake) (to : Outlet) (code : Code) (line : ℕ) (from' : Intake) (to' : Outlet)
    → Ran mode from to code line from' to' → HasCauses code from from' to to'

-- a line is told of a bad report alone, or of what is no choice's or floor's text
abbrev pub LinesAreOfBadReports : Type 0
LinesAreOfBadReports = (mode : Mode) (from : Intake) (to : Outlet) (code : Code) (line : ℕ) (from' : Intake) (to' : Outlet)
    → Ran mode from to code line from' to' → code ≢ BadReport → line ≡ 0

-- the bytes are an orders file within its limits
abbrev pub IsOrdersFile : List ℕ → Type 0
IsOrdersFile bytes = (rows : List Row) × HasRows bytes rows

-- the bytes are a file of designs within its limit
abbrev pub IsDesignsFile : List ℕ → Type 0
IsDesignsFile bytes = (design : asked.Design) × HasDesign bytes design

-- the bytes are a file of floors within its limits
abbrev pub IsFloorsFile : List ℕ → Type 0
IsFloorsFile bytes = (rows : List Row) × HasFloors bytes rows

-- the bytes are what the mode reads, within its limits; `trial` reads nothing
abbrev pub IsInputOf : Mode → List ℕ → Type 0
IsInputOf (Plan draw workers) read = IsOrdersFile read
IsInputOf (Check workers) read = IsReportFile read
IsInputOf Upgrade read = IsReportFile read
IsInputOf Choose read = IsOrdersFile read
IsInputOf CheckChoice read = IsChoiceBytes read
IsInputOf (Design workers) read = IsDesignsFile read
IsInputOf Floor read = IsFloorsFile read
IsInputOf CheckFloor read = IsFloorBytes read
IsInputOf (Trial number) read = ⊤

-- the code is one of a run that lacked nothing but memory
abbrev pub IsCompleteCode : Mode → Code → Type 0
IsCompleteCode (Plan draw workers) code = IsDoneOrMemory code
IsCompleteCode (Check workers) code = IsDoneOrMemory code
IsCompleteCode Upgrade code = IsQuietOrMemory code
IsCompleteCode Choose code = IsDoneOrMemory code
IsCompleteCode CheckChoice code = IsDoneOrMemory code
IsCompleteCode (Design workers) code = IsDoneOrMemory code
IsCompleteCode Floor code = IsDoneOrMemory code
IsCompleteCode CheckFloor code = IsDoneOrMemory code
IsCompleteCode (Trial number) code = IsQuietOrMemory code

-- where no fault rose and the bytes that were read are what the mode reads, all was done, or memory was refused
abbrev pub RunsAreComplete : Type 0
RunsAreComplete = (mode : Mode) (from : Intake) (to : Outlet) (code : Code) (line : ℕ) (from' : Intake) (to' : Outlet) (read : List ℕ)
    → Ran mode from to code line from' to' → from'.given ≡ from.given ++ read → IsInputOf mode read
    → ¬ Rose from.faults from'.faults → ¬ Rose to.faults to'.faults → IsCompleteCode mode code
