-- What holds of floor loads, of totals, and of their lines.
use Rattle.std.specs.Prelude.{ℕ, ◌≡◌, ◌*◌, ◌<◌, ◌≤◌, ◌↔◌, true, List, [], ◌∷◌, length, map, All, Contains, Some}
use Rattle.texts.specs.Spelling.{HasOneSpelling}
use Rattle.order_reader.specs.Records.{Fields}
use Rattle.order_reader.specs.Orders.{OrderValue}
use Rattle.order_reader.specs.declared.rows.Row.TheVariants.{Order}
use Rattle.plan_entries.specs.declared.entries.Plan.{Plan}
use Rattle.plan_soundness.specs.Sound.{IsSound}
use Rattle.truck_floor.specs.declared.totals.Total.{Total}
use Rattle.truck_floor.specs.declared.totals.TotalLine.{TotalLine}
use Rattle.truck_floor.specs.FloorRows.{both_rows, IsFloorFor}
use Rattle.truck_floor.specs.Loads.{LoadedPallet, MeetsRules, IsFloorLoad, cases_on, stack_of}
use Rattle.truck_floor.specs.Totals.{IsTotalOf}
use Rattle.truck_floor.specs.Text.{total_line, total_lines, total_text, IsTotalLine}
use Rattle.truck_floor.specs.Words.{total_of}

-- the two orders of a row go together: the first is that of a floor for the pallets of the second
abbrev pub FloorsFitTheirLoads : Type 0
FloorsFitTheirLoads = (k : ℕ) (fields : Fields) (f o : OrderValue) → both_rows k fields ≡ Order f ∷ Order o ∷ [] → IsFloorFor f o

-- no floor load has more cases than the total's two bounds give
abbrev pub FloorLoadsAreBounded : Type 0
FloorLoadsAreBounded =
    (p q : Plan) (t : Total) (pallets : List LoadedPallet) → IsSound p → IsSound q → IsTotalOf p q t → IsFloorLoad p.order q.order pallets
    → cases_on pallets ≤ t.pallet_bound * t.case_bound

-- A floor load of n cases in which each pallet bears the stack of the load's plan. That stack is of layers that the plan
-- lists, and each two neighbours in it meet every rule that the order asks for.
pub record IsReached (p q : Plan) (n : ℕ) : Type 0 where
  pub pallets : List LoadedPallet
  pub is_floor_load : IsFloorLoad p.order q.order pallets
  pub stacks : All (λ pallet. pallet.layers ≡ stack_of q) pallets
  pub listed : All (Contains (map (λ l. l.spots) q.layers)) (stack_of q)
  pub meets : MeetsRules q.order (stack_of q)
  pub cases : cases_on pallets ≡ n

-- there is one of as many cases as the total's first two numbers give, where the second is above 0
abbrev pub FloorLoadsAreReached : Type 0
FloorLoadsAreReached = (p q : Plan) (t : Total) → IsSound p → IsSound q → IsTotalOf p q t → 0 < t.cases → IsReached p q (t.pallets * t.cases)

-- two totals of the same plans are equal
abbrev pub TotalsAreOne : Type 0
TotalsAreOne = (p q : Plan) (a b : Total) → IsTotalOf p q a → IsTotalOf p q b → a ≡ b

-- where a total is optimal no floor load has more cases than its first two numbers give
abbrev pub OptimalTotalsAreGreatest : Type 0
OptimalTotalsAreGreatest =
    (p q : Plan) (t : Total) (pallets : List LoadedPallet) → IsSound p → IsSound q → IsTotalOf p q t → t.optimal ≡ true
    → IsFloorLoad p.order q.order pallets → cases_on pallets ≤ t.pallets * t.cases

-- bytes begin with the text of at most one total
abbrev pub TotalsHaveOneText : Type 0
TotalsHaveOneText = HasOneSpelling total_lines IsTotalLine

-- the text of a total is short, as that of 1,000 pallets with 10,000,000 cases each
abbrev pub TotalsAreShort : Type 0
TotalsAreShort = (t : TotalLine) → IsTotalLine t → length (total_text t) ≤ 49

-- a line is read exactly where it is that of a total within its ranges
abbrev pub TotalLinesAreRead : Type 0
TotalLinesAreRead = (line : List ℕ) (t : TotalLine) → (total_of line ≡ Some t) ↔ (IsTotalLine t × (line ≡ total_line t))
