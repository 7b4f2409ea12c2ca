use Rattle.std.specs.Prelude.{◌≡◌, ℕ, ◌+◌, ◌*◌, ◌≤◌}
use Rattle.partitions.specs.Partitions.{IsFeasible}

-- The least side on which other case sides keep all partitions of a side: the greatest total of the
-- new case sides over the feasible partitions.
pub record IsLeastSide (side long short new_long new_short least : ℕ) : Type 0 where
  pub i : ℕ
  pub j : ℕ
  pub feasible : IsFeasible side long short i j
  pub sum : least ≡ i * new_long + j * new_short
  pub covers : (i' j' : ℕ) → IsFeasible side long short i' j' → i' * new_long + j' * new_short ≤ least
