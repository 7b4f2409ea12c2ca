-- Tables of weights on few columns and rows of cells, the same from both ends of each.
use Rattle.std.specs.Prelude.{◌≡◌, ℕ, ◌+◌, ◌-◌, ◌*◌, ◌/◌, min, ◌<◌, ◌≤◌, ◌==◌, List, length, slice_index, All, Option, Some, None}
use Rattle.std.specs.List.{position}
use Rattle.std.specs.List.Sorted.{IsStrictlyIncreasing}
use Rattle.plan_geometry.specs.declared.instances.Inst.{Inst}

-- What a table is: the columns and the rows of cells that have weights, and the weights where the first half of these
-- columns crosses the first half of these rows, row by row. Of an odd number the half has the middle too.
pub record Lines : Type 0 where
  pub columns : List ℕ
  pub rows : List ℕ
  pub quarter : List ℕ

-- the half of so many, with the middle
abbrev pub half : ℕ → ℕ
half n = (n + 1) / 2

-- how many of n things in a row stand between the k-th and the nearer end
abbrev pub from_end : ℕ → ℕ → ℕ
from_end n k = min k (n - 1 - k)

-- the weight where the i-th column crosses the j-th row
abbrev pub crossing : Lines → ℕ → ℕ → ℕ
crossing t i j =
    slice_index t.quarter (from_end (length t.rows) j * half (length t.columns) + from_end (length t.columns) i)

-- which of the lines this one is, counted from 0
abbrev pub line_at : List ℕ → ℕ → Option ℕ
line_at lines v = position (λ line. line == v) lines

-- what there is at a line, and 0 where there is no line
abbrev pub on_line : Option ℕ → (ℕ → ℕ) → ℕ
on_line None f = 0
on_line (Some i) f = f i

-- what a cell weighs: the weight of the crossing of its column and its row, and 0 where it is on none
abbrev pub weight_at : Lines → ℕ → ℕ → ℕ
weight_at t x y = on_line (line_at t.columns x) (λ i. on_line (line_at t.rows y) (λ j. crossing t i j))

-- one line at least, rising, each below 4,000; so there are at most 4,000
pub record AreLines (lines : List ℕ) : Type 0 where
  pub some : 1 ≤ length lines
  pub rising : IsStrictlyIncreasing lines
  pub low : All (λ line. line < 4000) lines

-- the columns and the rows are lines, and there is a weight for each crossing of a quarter, at most 40,000 weights, none
-- above 100,000
pub record IsLineTable (t : Lines) : Type 0 where
  pub columns : AreLines t.columns
  pub rows : AreLines t.rows
  pub count : length t.quarter ≡ half (length t.rows) * half (length t.columns)
  pub few : length t.quarter ≤ 40000
  pub light : All (λ weight. weight ≤ 100000) t.quarter

-- each column and each row of the table is one of the pallet
pub record BelongsTo (t : Lines) (I : Inst) : Type 0 where
  pub columns : All (λ column. column < I.l_side) t.columns
  pub rows : All (λ row. row < I.w_side) t.rows
