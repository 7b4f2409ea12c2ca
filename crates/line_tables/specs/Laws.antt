-- What a cell and a block of cells weigh under a table.
use Rattle.std.specs.Prelude.{◌≡◌, ℕ, ◌+◌, ◌-◌, ◌<◌, ◌⊎◌, List, length, slice_index, Contains, count_by, nat_lt}
use Rattle.plan_geometry.specs.Weight.{block_weight}
use Rattle.line_tables.specs.Lines.{Lines, crossing, weight_at, IsLineTable}

-- where two lines cross stands the weight of their crossing
abbrev pub CellsWeighTheirCrossings : Type 0
CellsWeighTheirCrossings =
    (t : Lines) → IsLineTable t → (i j : ℕ) → i < length t.columns → j < length t.rows → weight_at t (slice_index t.columns i) (slice_index t.rows j) ≡ crossing t i j

-- and elsewhere nothing
abbrev pub OtherCellsWeighNothing : Type 0
OtherCellsWeighNothing = (t : Lines) (x y : ℕ) → (¬ Contains t.columns x) ⊎ (¬ Contains t.rows y) → weight_at t x y ≡ 0

-- a crossing weighs what those weigh that stand as far from the other ends
abbrev pub BothEndsWeighTheSame : Type 0
BothEndsWeighTheSame =
    (t : Lines) (i j : ℕ) → i < length t.columns → j < length t.rows → (crossing t (length t.columns - 1 - i) j ≡ crossing t i j) × (crossing t i (length t.rows - 1 - j) ≡ crossing t i j)

-- how many of the lines stand before this place
abbrev pub lines_below : List ℕ → ℕ → ℕ
lines_below lines v = count_by (λ line. nat_lt line v) lines

-- how many of the lines stand among the n places from v on
abbrev pub lines_among : List ℕ → ℕ → ℕ → ℕ
lines_among lines v n = lines_below lines (v + n) - lines_below lines v

-- A block of cells weighs what the crossings weigh of the columns and the rows through it. So what a case weighs depends
-- on nothing but how many columns stand before its two ends along x, and how many rows before those along y.
abbrev pub BlocksWeighTheirCrossings : Type 0
BlocksWeighTheirCrossings =
    (t : Lines) → IsLineTable t → (x y a b : ℕ) → block_weight (weight_at t) x y a b ≡ block_weight (crossing t) (lines_below t.columns x) (lines_below t.rows y) (lines_among t.columns x a) (lines_among t.rows y b)
