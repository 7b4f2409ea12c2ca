-- The number columns of an orders file, and its two headers.
use Rattle.std.specs.Prelude.{ℕ, Bool, List, [], ◌∷◌, map, Option, Some, None, codes, if◌then◌else◌}
use Rattle.std.specs.Str.{bytes_eq}
use Rattle.std.specs.Cmp.Lexicographic.{pointwise}
use Rattle.order_reader.specs.Records.{Fields}
use Rattle.order_reader.specs.declared.fields.Field.{Field}
use Rattle.order_reader.specs.declared.fields.Field.TheVariants.{PalletX, PalletY, CaseX, CaseY, CaseZ, Weight, MaxHeight, MaxWeight, Contact, Support, Cut, Gap}

-- what a column is called in the header
abbrev pub column_name : Field → List ℕ
column_name PalletX = codes "pallet_x"
column_name PalletY = codes "pallet_y"
column_name CaseX = codes "case_x"
column_name CaseY = codes "case_y"
column_name CaseZ = codes "case_z"
column_name Weight = codes "weight"
column_name MaxHeight = codes "max_height"
column_name MaxWeight = codes "max_weight"
column_name Contact = codes "contact"
column_name Support = codes "support"
column_name Cut = codes "cut"
column_name Gap = codes "gap"

-- the place of a column among the number columns, from 0
abbrev pub place_of : Field → ℕ
place_of PalletX = 0
place_of PalletY = 1
place_of CaseX = 2
place_of CaseY = 3
place_of CaseZ = 4
place_of Weight = 5
place_of MaxHeight = 6
place_of MaxWeight = 7
place_of Contact = 8
place_of Support = 9
place_of Cut = 10
place_of Gap = 11

-- the number columns in the order of the file, without the gap and with it
unfoldable pub columns_before_gap : List Field
columns_before_gap =
    PalletX ∷ PalletY ∷ CaseX ∷ CaseY ∷ CaseZ ∷ Weight ∷ MaxHeight ∷ MaxWeight ∷ Contact ∷ Support ∷ Cut ∷ []

unfoldable pub all_columns : List Field
all_columns =
    PalletX ∷ PalletY ∷ CaseX ∷ CaseY ∷ CaseZ ∷ Weight ∷ MaxHeight ∷ MaxWeight ∷ Contact ∷ Support ∷ Cut ∷ Gap ∷ []

-- the header over these number columns
abbrev pub header_over : List Field → Fields
header_over columns = codes "id" ∷ map column_name columns

-- two records have the same fields
abbrev pub same_fields : Fields → Fields → Bool
same_fields = pointwise bytes_eq

-- the number columns under a record that is one of the two headers
abbrev pub columns_under : Fields → Option (List Field)
columns_under first =
    if same_fields first (header_over columns_before_gap) then Some columns_before_gap
    else (if same_fields first (header_over all_columns) then Some all_columns else None)
