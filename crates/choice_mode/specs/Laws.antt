-- What follows of the runs of both modes.
use Rattle.std.specs.Prelude.{ℕ, ◌≡◌, Bool, true, false, List, length, map, All, Contains, Option, Some, None}
use Rattle.plan_io.specs.Streams.{Intake, Outlet}
use Rattle.plan_io.specs.Causes.{Rose}
use Rattle.run_parts.specs.Codes.{IsDoneOrMemory}
use Rattle.run_parts.specs.declared.codes.Code.{Code}
use Rattle.plan_geometry.specs.declared.spots.Spot.{Spot}
use Rattle.order_reader.specs.Instances.{IsLayerFor, IsBoundFor}
use Rattle.order_reader.specs.declared.rows.Row.{Row}
use Rattle.plan_entries.specs.declared.entries.Plan.{Plan}
use Rattle.plan_entries.specs.declared.entries.Entry.{Entry}
use Rattle.plan_entries.specs.declared.entries.Entry.TheVariants.{Planned}
use Rattle.plan_entries.specs.Entries.{is_refused}
use Rattle.plan_mode.specs.OrdersFiles.{HasRows}
use Rattle.plan_mode.specs.Accepted.{verdict_due}
use Rattle.choice_mode.specs.Choosing.{ChoiceReported}
use Rattle.choice_mode.specs.ChooseRuns.{ChooseRan}
use Rattle.choice_mode.specs.Reading.{IsChoiceBytes}
use Rattle.choice_mode.specs.Judging.{ChoiceJudged, judgement_text}
use Rattle.choice_mode.specs.CheckRuns.{CheckChoiceRan}

-- Where what was read is an orders file within its limits, and no count of faults rose, a run of `choose` lacked nothing
-- but memory.
abbrev pub ChoicesAreComplete : Type 0
ChoicesAreComplete =
    (from : Intake) (to : Outlet) (code : Code) (from' : Intake) (to' : Outlet)
    (ran : ChooseRan from to code from' to') (rows : List Row)
    → HasRows ran.read rows → ¬ Rose from.faults from'.faults → ¬ Rose to.faults to'.faults → IsDoneOrMemory code

-- Where what was read is the text of a choice, and no count of faults rose, a run of `check-choice` lacked nothing but
-- memory.
abbrev pub ChecksOfChoicesAreComplete : Type 0
ChecksOfChoicesAreComplete =
    (from : Intake) (to : Outlet) (code : Code) (line : ℕ) (from' : Intake) (to' : Outlet)
    (ran : CheckChoiceRan from to code line from' to')
    → IsChoiceBytes ran.read → ¬ Rose from.faults from'.faults → ¬ Rose to.faults to'.faults → IsDoneOrMemory code

-- the entry of this number is a plan, whose order has a layer of so many cases
pub record HasLayerOf (entries : List Entry) (number count : ℕ) : Type 0 where
  pub plan : Plan
  pub is_entry : Contains entries (Planned plan)
  pub number_is : plan.number ≡ number
  pub spots : List Spot
  pub layer : IsLayerFor plan.order spots
  pub count_is : length spots ≡ count

-- of each planned entry, but for those of these numbers, no layer of the order has more than so many cases
abbrev pub NoOtherHoldsMore : List Entry → List ℕ → ℕ → Type 0
NoOtherHoldsMore entries numbers count =
    (p : Plan) → Contains entries (Planned p) → ¬ Contains numbers p.number → IsBoundFor p.order count

-- The chosen entry's order has a layer of the count that is told, and no planned entry's has one of more cases, but for
-- those of the rivals that are told. Where none is chosen, each entry is that of a refused row.
abbrev pub HoldsMost : List Entry → Option (ℕ × ℕ) → List (ℕ × ℕ) → Type 0
HoldsMost entries (Some chosen) rivals = HasLayerOf entries chosen.0 chosen.1 × NoOtherHoldsMore entries (map (λ r. r.0) rivals) chosen.1
HoldsMost entries None rivals = All (λ e. is_refused e ≡ true) entries

-- where a choice was judged to be right, it is so
abbrev pub ChosenHoldsMost : Type 0
ChosenHoldsMost =
    (read wrote : List ℕ) (judged : ChoiceJudged read wrote false) → HoldsMost judged.file.entries judged.file.tail.chosen judged.file.tail.rivals

-- the bytes are the text of a choice, and all that a judge can write of them is yes of each planned entry, refused of
-- each refused row, and then that the choice is right
pub record IsAcceptedChoice (entries : List Entry) (bytes : List ℕ) : Type 0 where
  pub is_choice : IsChoiceBytes bytes
  pub judged : (wrote : List ℕ) (found : Bool) → ChoiceJudged bytes wrote found
      → (found ≡ false) × (wrote ≡ judgement_text entries (map verdict_due entries) true)

-- what `choose` wrote is accepted by `check-choice`
abbrev pub ChoicesAreAccepted : Type 0
ChoicesAreAccepted =
    (orders bytes : List ℕ) (refused : Bool) (reported : ChoiceReported orders bytes refused) → IsAcceptedChoice reported.entries bytes
