-- Total lines of two entries.
use Rattle.std.proofs.Common.{◌≡◌, ◌∙◌, sym, ap}
use Rattle.plan_entries.specs.declared.entries.Entry.{Entry}
use Rattle.plan_entries.specs.declared.entries.Entry.TheVariants.{Planned, Refused}
use Rattle.truck_floor.specs.declared.totals.Total.{Total}
use Rattle.truck_floor.specs.declared.totals.TotalLine.{TotalLine}
use Rattle.truck_floor.specs.declared.totals.TotalLine.TheVariants.{Numbers, Nothing}
use Rattle.truck_floor.specs.Laws.{TotalsAreOne}
use Rattle.floor_mode.specs.Totals.{IsTotalLineOf}

-- two entries have one total line
pub one-line : TotalsAreOne → (floor load : Entry) (a b : TotalLine) → IsTotalLineOf floor load a → IsTotalLineOf floor load b → a ≡ b
one-line one (Planned p) (Planned q) (Numbers s) (Numbers t) x y = ap (λ (n : Total). Numbers n) (one p q s t x y)
one-line one (Planned p) (Planned q) (Numbers s) Nothing x y = absurd y
one-line one (Planned p) (Planned q) Nothing b x y = absurd x
one-line one (Planned p) (Refused n fault) a b x y = x ∙ sym y
one-line one (Refused n fault) load a b x y = x ∙ sym y
