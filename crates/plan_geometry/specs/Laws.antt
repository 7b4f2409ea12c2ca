-- The laws of layouts that other parts rest on.
use Rattle.std.specs.Prelude.{ℕ, ◌≡◌, ◌≤◌, List, sum_by, IsPermutation}
use Rattle.plan_geometry.specs.declared.spots.Spot.{Spot}
use Rattle.plan_geometry.specs.declared.instances.Inst.{Inst}
use Rattle.plan_geometry.specs.Layout.{IsLayout, Admits, IsInOrder}
use Rattle.plan_geometry.specs.Weight.{spot_weight, total_weight}

-- where some layout has n cases, some layout has m for each lesser m
abbrev pub FewerAreAdmitted : Type 0
FewerAreAdmitted = (I : Inst) (m n : ℕ) → m ≤ n → Admits I n → Admits I m

-- the weights of the cases of a layout add up to at most the weight of the pallet
abbrev pub CasesWeighAtMostTheTotal : Type 0
CasesWeighAtMostTheTotal =
    (g : ℕ → ℕ → ℕ) (I : Inst) (spots : List Spot) → IsLayout I spots → sum_by (spot_weight g I) spots ≤ total_weight g I

-- two lists in order that have the same cases are the same
abbrev pub OneOrder : Type 0
OneOrder = (xs ys : List Spot) → IsInOrder xs → IsInOrder ys → IsPermutation xs ys → xs ≡ ys
