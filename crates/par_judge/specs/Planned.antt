-- What is planned for orders.
use Rattle.std.specs.Prelude.{ℕ, ◌≡◌, ◌≤◌, List}
use Rattle.order_reader.specs.Orders.{OrderValue}
use Rattle.order_reader.specs.Instances.{IsBoundFor}
use Rattle.cert_text.specs.declared.forms.Form.TheVariants.{Two}
use Rattle.plan_entries.specs.declared.entries.Plan.{Plan}
use Rattle.plan_entries.specs.declared.entries.Entry.TheVariants.{Planned}
use Rattle.plan_entries.specs.Ranges.{IsInRange}
use Rattle.plan_soundness.specs.Sound.{IsSound}
use Rattle.layer_planner.specs.Quality.{HasQuality, HasShortCert}
use Rattle.par_judge.specs.declared.plans.Numbered.{Numbered}
use Rattle.par_judge.specs.Paired.{ArePaired}

-- The plan of the order of this number: it echoes the order, is sound for it, and has the quality that is promised; no layer
-- of the order has more cases than its bound.
pub record IsPlanOf (n : ℕ) (o : OrderValue) (p : Plan) : Type 0 where
  pub number : p.number ≡ n
  pub echo : p.order ≡ o
  pub sound : IsSound p
  pub quality : HasQuality p
  pub bounded : IsBoundFor o p.bound
  pub in_range : IsInRange Two (Planned p)
  pub short : HasShortCert p.reduced p.cert

-- the number is one that an entry may have
abbrev pub IsNumbered : Numbered → Type 0
IsNumbered order = (1 ≤ order.number) × (order.number ≤ 256)

-- the plan of the order, under its number
abbrev pub IsPlanOfNumbered : Numbered → Plan → Type 0
IsPlanOfNumbered order plan = IsPlanOf order.number order.order plan

-- as many plans as orders, each that of the order at its place
abbrev pub ArePlansOf : List Numbered → List Plan → Type 0
ArePlansOf orders plans = ArePaired IsPlanOfNumbered orders plans
