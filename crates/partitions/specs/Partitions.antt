use Rattle.std.specs.Prelude.{◌≡◌, ℕ, ◌+◌, ◌*◌, ◌<◌, ◌≤◌, ◌↔◌, List, All}
use Rattle.plan_geometry.specs.declared.spots.Axis.{Axis}
use Rattle.plan_geometry.specs.declared.spots.Axis.TheVariants.{X, Y}
use Rattle.plan_geometry.specs.declared.spots.Spot.{Spot}
use Rattle.plan_geometry.specs.declared.instances.Inst.{Inst}
use Rattle.plan_geometry.specs.Layout.{side}

-- A partition is a pair of whole numbers. It is feasible on a side of the pallet where so many long and so
-- many short case sides fit there one after another.
abbrev pub IsFeasible : ℕ → ℕ → ℕ → ℕ → ℕ → Type 0
IsFeasible side long short i j = i * long + j * short ≤ side

-- a feasible partition of which neither number can be raised
pub record IsMaximal (side long short i j : ℕ) : Type 0 where
  pub feasible : IsFeasible side long short i j
  pub i_full : ¬ IsFeasible side long short (i + 1) j
  pub j_full : ¬ IsFeasible side long short i (j + 1)

-- the maximal partition with the least first number that is at least this
pub record IsNextMaximal (side long short from i j : ℕ) : Type 0 where
  pub from_on : from ≤ i
  pub maximal : IsMaximal side long short i j
  pub first : (k m : ℕ) → from ≤ k → k < i → ¬ IsMaximal side long short k m

-- no maximal partition has a first number that is at least this
abbrev pub HasNoMaximalFrom : ℕ → ℕ → ℕ → ℕ → Type 0
HasNoMaximalFrom side long short from =
    (k m : ℕ) → from ≤ k → ¬ IsMaximal side long short k m

-- two sides have the same feasible partitions, each side with its own case
abbrev pub SamePairs : ℕ → ℕ → ℕ → ℕ → ℕ → ℕ → Type 0
SamePairs side long short other other_long other_short =
    (i j : ℕ) → IsFeasible side long short i j ↔ IsFeasible other other_long other_short i j

-- the pair is a feasible partition of the pallet's side along the axis
abbrev pub IsPartition : Axis → Inst → ℕ → ℕ → Type 0
IsPartition a inst i j = IsFeasible (side a inst) inst.long inst.short i j

-- the same pairs are feasible on both x sides, and on both y sides
pub record SameSides (a b : Inst) : Type 0 where
  pub along_x : (i j : ℕ) → IsPartition X a i j ↔ IsPartition X b i j
  pub along_y : (i j : ℕ) → IsPartition Y a i j ↔ IsPartition Y b i j

-- a normal place on a side: the total of a number of long and a number of short case sides, at most the side
pub record IsNormal (side long short place : ℕ) : Type 0 where
  pub i : ℕ
  pub j : ℕ
  pub sum : place ≡ i * long + j * short
  pub within : place ≤ side

-- a case stands at normal places of both sides
pub record IsNormalSpot (inst : Inst) (spot : Spot) : Type 0 where
  pub in_x : IsNormal inst.l_side inst.long inst.short spot.x
  pub in_y : IsNormal inst.w_side inst.long inst.short spot.y

abbrev pub AreNormal : Inst → List Spot → Type 0
AreNormal inst spots = All (IsNormalSpot inst) spots
