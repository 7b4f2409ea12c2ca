-- The columns of a designs file.
use Rattle.std.specs.Prelude.{ℕ, ◌-◌, ◌≤◌, ◌==◌, if◌then◌else◌, List, [], ◌∷◌, codes, slice_index_or, Option, option_and_then, IsSome, IsSomeAnd}
use Rattle.csv.specs.Records.{field_at}
use Rattle.plan_io.specs.Numbers.{number_of}
use Rattle.order_reader.specs.Records.{Fields}

-- The header: an id, the pallet's sides, the ranges of the case's longer and of its shorter side, and the least area that
-- a case has.
unfoldable pub header : Fields
header =
    codes "id" ∷ codes "pallet_x" ∷ codes "pallet_y" ∷ codes "long_from" ∷ codes "long_to" ∷ codes "short_from" ∷ codes "short_to" ∷ codes "least_area" ∷ []

-- what the header calls a column, of which the first is column 1
abbrev pub column_name : ℕ → List ℕ
column_name column = slice_index_or header (column - 1) []

-- all columns but the first have numbers
abbrev pub IsNumberColumn : ℕ → Type 0
IsNumberColumn column = (2 ≤ column) × (column ≤ 8)

-- the number that a row has in a column
abbrev pub number_in : Fields → ℕ → Option ℕ
number_in row column = option_and_then number_of (field_at row (column - 1))

-- the greatest number of a column: a side is at most 4,000, and the least area, in column 8, at most 16,000,000
abbrev pub greatest_in : ℕ → ℕ
greatest_in column = if column == 8 then 16000000 else 4000

-- a row has a number in a column, and has one from 1 to the column's greatest
abbrev pub HasNumber : Fields → ℕ → Type 0
HasNumber row column = IsSome (number_in row column)

abbrev pub HasNumberInRange : Fields → ℕ → Type 0
HasNumberInRange row column = IsSomeAnd (number_in row column) (λ n. (1 ≤ n) × (n ≤ greatest_in column))
