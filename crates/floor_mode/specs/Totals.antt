-- The total of the two entries of a row.
use Rattle.std.specs.Prelude.{◌≡◌, ⊤}
use Rattle.plan_entries.specs.declared.entries.Entry.{Entry}
use Rattle.plan_entries.specs.declared.entries.Entry.TheVariants.{Planned, Refused}
use Rattle.truck_floor.specs.declared.totals.TotalLine.{TotalLine}
use Rattle.truck_floor.specs.declared.totals.TotalLine.TheVariants.{Numbers, Nothing}
use Rattle.truck_floor.specs.FloorRows.{IsFloorFor}
use Rattle.truck_floor.specs.Totals.{IsTotalOf}

-- the line of the total of a floor's entry and a load's entry: that of both plans, or that there is none
abbrev pub IsTotalLineOf : Entry → Entry → TotalLine → Type 0
IsTotalLineOf (Planned p) (Planned q) (Numbers t) = IsTotalOf p q t
IsTotalLineOf (Planned p) (Planned q) Nothing = ⊥
IsTotalLineOf (Planned p) (Refused n fault) line = line ≡ Nothing
IsTotalLineOf (Refused n fault) load line = line ≡ Nothing

-- an entry is that of a refused row, or the first order is that of a floor for the loaded pallets of the second
abbrev pub GoTogether : Entry → Entry → Type 0
GoTogether (Planned p) (Planned q) = IsFloorFor p.order q.order
GoTogether (Planned p) (Refused n fault) = ⊤
GoTogether (Refused n fault) load = ⊤
