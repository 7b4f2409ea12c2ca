-- The first place of a list, counted from 1, at which something is wrong.
use Rattle.std.specs.Prelude.{ℕ, ◌-◌, ◌<◌, ◌≤◌, ◌≡◌, ◌≢◌, List, take, Some}
use Rattle.std.specs.List.{All, slice_get}

-- the place of the first item of which P does not hold
pub record IsFirstWithout {X : Type 0} (P : X → Type 0) (xs : List X) (place : ℕ) : Type 0 where
  pub from_one : 1 ≤ place
  pub earlier : All P (take (place - 1) xs)
  pub item : X
  pub there : slice_get xs (place - 1) ≡ Some item
  pub without : P item → ⊥

-- the first place at which the two lists have different items, or one list has an item and the other has none
pub record IsFirstDifference {X : Type 0} (xs ys : List X) (place : ℕ) : Type 0 where
  pub from_one : 1 ≤ place
  pub earlier : (k : ℕ) → k < place - 1 → slice_get xs k ≡ slice_get ys k
  pub differ : slice_get xs (place - 1) ≢ slice_get ys (place - 1)
