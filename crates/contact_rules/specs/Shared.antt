use Rattle.std.specs.Prelude.{ℕ, Bool, ◌&&◌, nat_lt, nat_le, if◌then◌else◌, List, sum_by, count_by}
use Rattle.plan_geometry.specs.declared.spots.Axis.TheVariants.{X, Y}
use Rattle.plan_geometry.specs.declared.spots.Spot.{Spot}
use Rattle.plan_geometry.specs.declared.instances.Inst.{Inst}
use Rattle.plan_geometry.specs.Layout.{start}
use Rattle.plan_geometry.specs.Weight.{sum_below}
use Rattle.contact_rules.specs.Real.{real_finish, real_side}

-- whether the real case covers the cell whose corner of least x and y is (i, j)
abbrev pub covers : Inst → ℕ → Spot → ℕ → ℕ → Bool
covers I gap s i j =
    (nat_le (start X s) i && nat_lt i (real_finish X I gap s)) && (nat_le (start Y s) j && nat_lt j (real_finish Y I gap s))

-- how many cells of the pallet both cases cover
unfoldable pub shared : Inst → ℕ → Spot → Spot → ℕ
shared I gap s t =
    sum_below (real_side X I gap) (λ i. sum_below (real_side Y I gap) (λ j. if covers I gap s i j && covers I gap t i j then 1 else 0))

-- the area that a case shares with all cases of a layer
abbrev pub total_shared : Inst → ℕ → List Spot → Spot → ℕ
total_shared I gap lower s = sum_by (λ (t : Spot). shared I gap s t) lower

-- how many cases of a layer share some area with a case
abbrev pub supporters : Inst → ℕ → List Spot → Spot → ℕ
supporters I gap lower s = count_by (λ (t : Spot). nat_lt 0 (shared I gap s t)) lower
