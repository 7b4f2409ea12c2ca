-- What a row asks for, and the tests of its fields.
use Rattle.std.specs.Prelude.{◌≡◌, ℕ, ◌≤◌, ◌<◌, true, length, Some}
use Rattle.order_reader.specs.Records.{Fields}
use Rattle.order_reader.specs.Faults.{is_id, id_in}
use Rattle.case_design.specs.declared.briefs.Brief.{Brief}
use Rattle.case_design.specs.Columns.{IsNumberColumn, number_in, HasNumber, HasNumberInRange}

-- the row has eight fields, and its id is one
pub record HasForm (row : Fields) : Type 0 where
  pub eight : length row ≡ 8
  pub id : is_id (id_in row) ≡ true

-- and a number in each column but the first
pub record HasNumbers (row : Fields) : Type 0 where
  pub form : HasForm row
  pub each : (column : ℕ) → IsNumberColumn column → HasNumber row column

-- and each is in its column's range
pub record HasRanges (row : Fields) : Type 0 where
  pub form : HasForm row
  pub each : (column : ℕ) → IsNumberColumn column → HasNumberInRange row column

-- the leftmost number column that is without something: each one left of it has that
pub record IsLeftmostWithout (Has : ℕ → Type 0) (column : ℕ) : Type 0 where
  pub number_column : IsNumberColumn column
  pub without : ¬ Has column
  pub left : (other : ℕ) → 2 ≤ other → other < column → Has other

-- the brief of a row whose numbers are in their ranges: each number by its column
pub record IsBriefOf (row : Fields) (brief : Brief) : Type 0 where
  pub ranges : HasRanges row
  pub pallet_x : number_in row 2 ≡ Some brief.pallet_x
  pub pallet_y : number_in row 3 ≡ Some brief.pallet_y
  pub long_from : number_in row 4 ≡ Some brief.long_from
  pub long_to : number_in row 5 ≡ Some brief.long_to
  pub short_from : number_in row 6 ≡ Some brief.short_from
  pub short_to : number_in row 7 ≡ Some brief.short_to
  pub least_area : number_in row 8 ≡ Some brief.least_area
