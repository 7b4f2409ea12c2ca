-- The least weight of a case on a pallet, and the bound that it gives.
use Rattle.std.specs.Prelude.{◌≡◌, ℕ, ◌/◌, ◌<◌, ◌≤◌}
use Rattle.plan_geometry.specs.declared.spots.Spot.{Spot}
use Rattle.plan_geometry.specs.declared.spots.Way.{Way}
use Rattle.plan_geometry.specs.declared.instances.Inst.{Inst}
use Rattle.plan_geometry.specs.Layout.{IsInside, IsLawfulWay}
use Rattle.plan_geometry.specs.Weight.{spot_weight, total_weight}

-- q is the least weight of the cases that count: each of them weighs at least q, and one just q
pub record IsLeastOf (I : Inst) (g : ℕ → ℕ → ℕ) (Counts : Spot → Type 0) (q : ℕ) : Type 0 where
  pub bound : (s : Spot) → Counts s → q ≤ spot_weight g I s
  pub spot : Spot
  pub counts : Counts spot
  pub reached : spot_weight g I spot ≡ q

-- the case lies on the pallet in this way
abbrev pub IsInsideSo : Inst → Way → Spot → Type 0
IsInsideSo I w s = IsInside I s × (s.way ≡ w)

-- the case lies on the pallet in a lawful way
abbrev pub IsLawfullyInside : Inst → Spot → Type 0
IsLawfullyInside I s = IsInside I s × IsLawfulWay I s.way

-- n is the weight of the pallet divided by the least weight of a case, which is not 0
pub record IsTotalByLeast (I : Inst) (g : ℕ → ℕ → ℕ) (n : ℕ) : Type 0 where
  pub least : ℕ
  pub is_least : IsLeastOf I g (IsLawfullyInside I) least
  pub some : 0 < least
  pub value : n ≡ total_weight g I / least
