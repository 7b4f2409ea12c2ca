-- Entries of a list of rows raised by 1.
use Rattle.std.specs.Prelude.{◌≡◌, ℕ, ◌+◌, ◌<◌, ◌≤◌, List, length, slice_index}
use Rattle.weightings.specs.Table.{cell_in}

-- the n entries from a place on are greater by 1, the others are the same
pub record RaisesRow (from n : ℕ) (old new : List ℕ) : Type 0 where
  pub count : length new ≡ length old
  pub more : (k : ℕ) → from ≤ k → k < from + n → slice_index new k ≡ slice_index old k + 1
  pub same : (k : ℕ) → (from ≤ k → from + n ≤ k) → slice_index new k ≡ slice_index old k

-- in rows that are so long, the entries at these places are greater by 1, the others are the same
pub record Raises (width : ℕ) (IsIn : ℕ → ℕ → Type 0) (old new : List ℕ) : Type 0 where
  pub count : length new ≡ length old
  pub more : (x y : ℕ) → x < width → IsIn x y → cell_in width new x y ≡ cell_in width old x y + 1
  pub same : (x y : ℕ) → x < width → ¬ IsIn x y → cell_in width new x y ≡ cell_in width old x y

-- the place is among the a by b places from (x, y) on
abbrev pub IsInBlock : ℕ → ℕ → ℕ → ℕ → ℕ → ℕ → Type 0
IsInBlock x y a b u v = (x ≤ u) × (u < x + a) × (y ≤ v) × (v < y + b)

-- no entry is greater by more than 1
abbrev pub RiseByOne : List ℕ → List ℕ → Type 0
RiseByOne old new = (k : ℕ) → slice_index new k ≤ slice_index old k + 1

-- of a list, the first place of its least entry
pub record IsFirstLeastPlace (xs : List ℕ) (place : ℕ) : Type 0 where
  pub within : place < length xs
  pub least : (k : ℕ) → k < length xs → slice_index xs place ≤ slice_index xs k
  pub first : (k : ℕ) → k < place → slice_index xs place < slice_index xs k

-- of a list, the first place of its greatest entry
pub record IsFirstGreatestPlace (xs : List ℕ) (place : ℕ) : Type 0 where
  pub within : place < length xs
  pub greatest : (k : ℕ) → k < length xs → slice_index xs k ≤ slice_index xs place
  pub first : (k : ℕ) → k < place → slice_index xs k < slice_index xs place
