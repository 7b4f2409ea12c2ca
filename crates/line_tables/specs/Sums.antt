-- The sums from which a table reads the weight of any block of crossings in four steps.
use Rattle.std.specs.Prelude.{◌≡◌, ℕ, ◌+◌, ◌*◌, ◌<◌, ◌≤◌, List, length, slice_index}
use Rattle.plan_geometry.specs.Weight.{sum_below}
use Rattle.line_tables.specs.Lines.{Lines, crossing, IsLineTable}

-- the weight of the crossings of the first i columns and the first j rows
abbrev pub first_weights : Lines → ℕ → ℕ → ℕ
first_weights t i j = sum_below i (λ p. sum_below j (λ q. crossing t p q))

-- The first n of the sums: row by row, for no row, one row and so on, and in each for no column, one column and so on,
-- the weight of the crossings of the first so many columns and rows.
pub record AreSums (t : Lines) (n : ℕ) (sums : List ℕ) : Type 0 where
  pub count : length sums ≡ n
  pub at : (i j : ℕ) → i ≤ length t.columns → j * (length t.columns + 1) + i < n → slice_index sums (j * (length t.columns + 1) + i) ≡ first_weights t i j

-- the sums are those of the table, which is one
pub record HoldSums (t : Lines) (sums : List ℕ) : Type 0 where
  pub table : IsLineTable t
  pub summed : AreSums t ((length t.rows + 1) * (length t.columns + 1)) sums
