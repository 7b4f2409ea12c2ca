-- What an order says, by the names of its columns.
use Rattle.std.specs.Prelude.{ℕ, min, max, List, slice_index}
use Rattle.order_reader.specs.Columns.{place_of}
use Rattle.order_reader.specs.declared.fields.Field.{Field}
use Rattle.order_reader.specs.declared.fields.Field.TheVariants.{PalletX, PalletY, CaseX, CaseY, CaseZ, Weight, MaxHeight, MaxWeight, Contact, Support, Cut, Gap}

-- what is seen of an order: its id, and its twelve numbers in the order of the file
pub record OrderValue : Type 0 where
  pub id : List ℕ
  pub numbers : List ℕ

-- the order of this id and these numbers
abbrev pub order_with : List ℕ → List ℕ → OrderValue
order_with id numbers = record { id = id; numbers = numbers }

-- the number in a column
abbrev pub number_in : OrderValue → Field → ℕ
number_in o field = slice_index o.numbers (place_of field)

-- the pallet's sides along x and y
abbrev pub pallet_x_of : OrderValue → ℕ
pallet_x_of o = number_in o PalletX

abbrev pub pallet_y_of : OrderValue → ℕ
pallet_y_of o = number_in o PalletY

-- the case's two sides in the layer, and its height
abbrev pub case_x_of : OrderValue → ℕ
case_x_of o = number_in o CaseX

abbrev pub case_y_of : OrderValue → ℕ
case_y_of o = number_in o CaseY

abbrev pub case_z_of : OrderValue → ℕ
case_z_of o = number_in o CaseZ

-- the weight of one case, in grams
abbrev pub weight_of : OrderValue → ℕ
weight_of o = number_in o Weight

-- the greatest height of the stack, and the greatest weight of all cases, in grams
abbrev pub max_height_of : OrderValue → ℕ
max_height_of o = number_in o MaxHeight

abbrev pub max_weight_of : OrderValue → ℕ
max_weight_of o = number_in o MaxWeight

-- the three rules of contact between layers, as percentages and as 0 or 1
abbrev pub contact_of : OrderValue → ℕ
contact_of o = number_in o Contact

abbrev pub support_of : OrderValue → ℕ
support_of o = number_in o Support

abbrev pub cut_of : OrderValue → ℕ
cut_of o = number_in o Cut

-- how far any two cases of a layer are apart at least, in x or in y
abbrev pub gap_of : OrderValue → ℕ
gap_of o = number_in o Gap

-- the longer and the shorter side of the case
abbrev pub long_of : OrderValue → ℕ
long_of o = max (case_x_of o) (case_y_of o)

abbrev pub short_of : OrderValue → ℕ
short_of o = min (case_x_of o) (case_y_of o)
