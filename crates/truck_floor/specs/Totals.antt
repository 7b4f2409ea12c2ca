-- The total of a floor: what the plan of the floor and the plan of the load give together.
use Rattle.std.specs.Prelude.{ℕ, ◌≡◌, ◌*◌, ◌/◌, ◌≤◌, ◌↔◌, min, IsTrue}
use Rattle.std.specs.Int.{IsInRange}
use Rattle.order_reader.specs.Orders.{case_z_of, weight_of, max_height_of, max_weight_of}
use Rattle.stack_builder.specs.declared.lists.StackAnswer.{StackAnswer}
use Rattle.stack_builder.specs.declared.lists.StackAnswer.TheVariants.{Stack, Unmet}
use Rattle.plan_entries.specs.declared.entries.Plan.{Plan}
use Rattle.truck_floor.specs.declared.totals.Total.{Total}

-- the cases of so many layers, where their stack is listed
abbrev pub cases_stacked : ℕ → ℕ → StackAnswer → ℕ
cases_stacked count allowed (Stack numbers) = count * allowed
cases_stacked count allowed (Unmet unmet) = 0

-- the cases of a pallet, by the plan of its load: the count times the layers allowed, or 0 where the stack is unmet
abbrev pub cases_by : Plan → ℕ
cases_by q = cases_stacked q.count q.allowed q.stack

-- The cases that no load exceeds: as many layers as the height allows, each with the bound of a layer, or as many cases
-- as the weight allows, whichever is less.
abbrev pub case_bound_by : Plan → ℕ
case_bound_by q =
    min ((max_height_of q.order / case_z_of q.order) * q.bound) (max_weight_of q.order / weight_of q.order)

-- The total of the plan of a floor and the plan of a load. It is optimal exactly where the cases of all pallets reach
-- the product of both bounds.
pub record IsTotalOf (p q : Plan) (t : Total) : Type 0 where
  pub pallets : t.pallets ≡ p.count
  pub cases : t.cases ≡ cases_by q
  pub pallet_bound : t.pallet_bound ≡ p.bound
  pub case_bound : t.case_bound ≡ case_bound_by q
  pub optimal : IsTrue t.optimal ↔ (t.pallets * t.cases ≡ t.pallet_bound * t.case_bound)

-- the ranges within which a total has a line
pub record IsWithin (t : Total) : Type 0 where
  pub pallets : IsInRange 1 1000 t.pallets
  pub cases : t.cases ≤ 10000000
  pub pallet_bound : IsInRange 1 1000 t.pallet_bound
  pub case_bound : t.case_bound ≤ 10000000
