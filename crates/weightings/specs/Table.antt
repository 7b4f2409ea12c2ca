-- A table of weights, one for each cell of a pallet.
use Rattle.std.specs.Prelude.{◌≡◌, ℕ, ◌+◌, ◌*◌, ◌≤◌, List, length, slice_index, All}

-- what a table is: its two sides, and the weights of its cells, by y, then x
pub record CellTable : Type 0 where
  pub x_side : ℕ
  pub y_side : ℕ
  pub cells : List ℕ

-- the weight of a cell, in a list of rows that are so long
abbrev pub cell_in : ℕ → List ℕ → ℕ → ℕ → ℕ
cell_in x_side cells x y = slice_index cells (y * x_side + x)

-- the weight of a cell of the table
abbrev pub cell_of : CellTable → ℕ → ℕ → ℕ
cell_of t x y = cell_in t.x_side t.cells x y

-- at least one cell, at most 40,000, a weight for each, and none above 100,000
pub record IsTable (x_side y_side : ℕ) (cells : List ℕ) : Type 0 where
  pub some_x : 1 ≤ x_side
  pub some_y : 1 ≤ y_side
  pub few : x_side * y_side ≤ 40000
  pub count : length cells ≡ x_side * y_side
  pub light : All (λ weight. weight ≤ 100000) cells

-- what each table is
abbrev pub IsCellTable : CellTable → Type 0
IsCellTable t = IsTable t.x_side t.y_side t.cells
