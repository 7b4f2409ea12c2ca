-- The sums from which a table reads the weight of any block in a few steps.
use Rattle.std.specs.Prelude.{◌≡◌, ℕ, ◌+◌, ◌-◌, ◌*◌, ◌/◌, ◌%◌, ◌<◌, ◌≤◌, ◌==◌, ◌||◌, if◌then◌else◌, List, length, map, slice_index}
use Rattle.std.specs.List.{range_with_len}
use Rattle.plan_geometry.specs.Weight.{block_weight}
use Rattle.weightings.specs.Table.{cell_in, IsTable}

-- the sum of the x by y cells from the corner (0, 0) on, as it is kept at the last of them
abbrev pub sum_at : ℕ → List ℕ → ℕ → ℕ → ℕ
sum_at x_side sums x y = if (x == 0) || (y == 0) then 0 else slice_index sums ((y - 1) * x_side + (x - 1))

-- a cell's weight, from the four sums around it
abbrev pub cell_from : ℕ → List ℕ → ℕ → ℕ → ℕ
cell_from x_side sums x y =
    (sum_at x_side sums (x + 1) (y + 1) - sum_at x_side sums x (y + 1)) - (sum_at x_side sums (x + 1) y - sum_at x_side sums x y)

-- the weights of the cells, by y, then x
unfoldable pub cells_from : ℕ → ℕ → List ℕ → List ℕ
cells_from x_side y_side sums = map (λ n. cell_from x_side sums (n % x_side) (n / x_side)) (range_with_len 0 (x_side * y_side))

-- at each cell stands the weight of all cells that are beyond it in neither direction
pub record AreSums (x_side y_side : ℕ) (cells sums : List ℕ) : Type 0 where
  pub count : length sums ≡ x_side * y_side
  pub at : (x y : ℕ) → x < x_side → y < y_side → slice_index sums (y * x_side + x) ≡ block_weight (cell_in x_side cells) 0 0 (x + 1) (y + 1)

-- the sums are those of a table
pub record HoldSums (x_side y_side : ℕ) (sums : List ℕ) : Type 0 where
  pub table : IsTable x_side y_side (cells_from x_side y_side sums)
  pub summed : AreSums x_side y_side (cells_from x_side y_side sums) sums

-- the least weight of an a by b block whose corner is one of these
pub record IsLeastBlock (g : ℕ → ℕ → ℕ) (a b : ℕ) (IsCorner : ℕ → ℕ → Type 0) (least : ℕ) : Type 0 where
  pub bound : (x y : ℕ) → IsCorner x y → least ≤ block_weight g x y a b
  pub x : ℕ
  pub y : ℕ
  pub corner : IsCorner x y
  pub reached : block_weight g x y a b ≡ least
