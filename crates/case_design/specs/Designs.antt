-- What a designs file says.
use Rattle.std.specs.Prelude.{◌≡◌, ◌≢◌, ℕ, ◌<◌, ◌≤◌, ⊤, false, List, [], ◌∷◌, length}
use Rattle.order_reader.specs.Records.{Fields, records_of}
use Rattle.order_reader.specs.Faults.{is_id, id_in}
use Rattle.order_reader.specs.declared.rows.Row.{Row}
use Rattle.case_design.specs.declared.briefs.Brief.{Brief}
use Rattle.case_design.specs.declared.sizes.Size.{Size}
use Rattle.case_design.specs.declared.faults.DesignFault.{DesignFault}
use Rattle.case_design.specs.declared.faults.DesignFault.TheVariants.{FieldCount, BadId, BadNumber, OutOfRange, NoSize, TooManySizes}
use Rattle.case_design.specs.declared.designs.Design.{Design}
use Rattle.case_design.specs.declared.designs.Design.TheVariants.{Nothing, Refused, Rows}
use Rattle.case_design.specs.Columns.{header, IsNumberColumn, HasNumber, HasNumberInRange}
use Rattle.case_design.specs.Briefs.{HasForm, HasNumbers, IsLeftmostWithout, IsBriefOf}
use Rattle.case_design.specs.Sizes.{AreSizes, size_rows}

-- the numbers of the row are in their ranges, and no size is in the list of its sizes
pub record HasNoSize (row : Fields) : Type 0 where
  pub brief : Brief
  pub is_brief : IsBriefOf row brief
  pub none : AreSizes brief []

-- or more than 256 are
pub record HasTooManySizes (row : Fields) : Type 0 where
  pub brief : Brief
  pub is_brief : IsBriefOf row brief
  pub sizes : List Size
  pub are_sizes : AreSizes brief sizes
  pub many : 256 < length sizes

-- the fault of a row: the first test that it fails, while it passes those before
abbrev pub HasFault : Fields → DesignFault → Type 0
HasFault row FieldCount = length row ≢ 8
HasFault row BadId = (length row ≡ 8) × (is_id (id_in row) ≡ false)
HasFault row (BadNumber column) = HasForm row × IsLeftmostWithout (HasNumber row) column
HasFault row (OutOfRange column) = HasNumbers row × IsLeftmostWithout (HasNumberInRange row) column
HasFault row NoSize = HasNoSize row
HasFault row TooManySizes = HasTooManySizes row

-- what a row that passes all tests gives: its id, and the row of each of its 1 to 256 sizes
pub record GivesRows (row : Fields) (id : List ℕ) (rows : List Row) : Type 0 where
  pub is_id : id ≡ id_in row
  pub brief : Brief
  pub is_brief : IsBriefOf row brief
  pub sizes : List Size
  pub are_sizes : AreSizes brief sizes
  pub some : 1 ≤ length sizes
  pub few : length sizes ≤ 256
  pub are_rows : rows ≡ size_rows id brief sizes

-- what a row says by itself
abbrev pub IsDesignOfRow : Fields → Design → Type 0
IsDesignOfRow row Nothing = ⊥
IsDesignOfRow row (Refused fault) = HasFault row fault
IsDesignOfRow row (Rows id rows) = GivesRows row id.items rows.items

-- the header is the first record of the file, and these rows follow it
abbrev pub HasRows : List ℕ → List Fields → Type 0
HasRows bytes rows = records_of bytes ≡ header ∷ rows

-- one row follows, and it is refused for this fault
pub record IsRefused (bytes : List ℕ) (fault : DesignFault) : Type 0 where
  pub row : Fields
  pub has_row : HasRows bytes (row ∷ [])
  pub has_fault : HasFault row fault

-- one row follows, and it gives this
pub record IsAccepted (bytes id : List ℕ) (rows : List Row) : Type 0 where
  pub row : Fields
  pub has_row : HasRows bytes (row ∷ [])
  pub gives : GivesRows row id rows

-- the design of a file
abbrev pub IsDesignOf : List ℕ → Design → Type 0
IsDesignOf bytes Nothing = HasRows bytes []
IsDesignOf bytes (Refused fault) = IsRefused bytes fault
IsDesignOf bytes (Rows id rows) = IsAccepted bytes id.items rows.items

-- there is no record, or the first is not the header
abbrev pub HasNoHeader : List ℕ → Type 0
HasNoHeader bytes = (rows : List Fields) → ¬ HasRows bytes rows

-- two or more rows follow the header
pub record HasManyRows (bytes : List ℕ) : Type 0 where
  pub rows : List Fields
  pub has_rows : HasRows bytes rows
  pub many : 2 ≤ length rows

-- a fault names a number column, where it names one
abbrev pub NamesColumn : DesignFault → Type 0
NamesColumn FieldCount = ⊤
NamesColumn BadId = ⊤
NamesColumn (BadNumber column) = IsNumberColumn column
NamesColumn (OutOfRange column) = IsNumberColumn column
NamesColumn NoSize = ⊤
NamesColumn TooManySizes = ⊤

abbrev pub NamesColumns : Design → Type 0
NamesColumns Nothing = ⊤
NamesColumns (Refused fault) = NamesColumn fault
NamesColumns (Rows id rows) = ⊤

-- the rows that a design has
abbrev pub rows_in : Design → List Row
rows_in Nothing = []
rows_in (Refused fault) = []
rows_in (Rows id rows) = rows.items
