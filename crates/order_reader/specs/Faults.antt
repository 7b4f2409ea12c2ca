-- The six tests of a row, in order; the first that fails names the row's fault.
use Rattle.std.specs.Prelude.{ℕ, ◌+◌, ◌-◌, ◌*◌, ◌/◌, ◌≡◌, ◌==◌, ◌&&◌, ◌||◌, nat_le, min, max, ⊤, Bool, not, List, [], ◌∷◌, length, map, find, Option, Some, None, is_some, option_map, option_and_then, unwrap_or, if◌then◌else◌}
use Rattle.std.specs.List.{list_all}
use Rattle.csv.specs.Records.{field_at}
use Rattle.plan_io.specs.Numbers.{number_of}
use Rattle.order_reader.specs.Records.{Fields}
use Rattle.order_reader.specs.Columns.{place_of, all_columns}
use Rattle.order_reader.specs.Orders.{OrderValue, order_with, number_in, pallet_x_of, pallet_y_of, gap_of, long_of, short_of}
use Rattle.order_reader.specs.declared.fields.Field.{Field}
use Rattle.order_reader.specs.declared.fields.Field.TheVariants.{PalletX, PalletY, CaseX, CaseY, CaseZ, Weight, MaxHeight, MaxWeight, Contact, Support, Cut, Gap}
use Rattle.order_reader.specs.declared.faults.RowFault.{RowFault}
use Rattle.order_reader.specs.declared.faults.RowFault.TheVariants.{FieldCount, BadId, BadNumber, OutOfRange, DoesNotFit, TooManyCases}
use Rattle.order_reader.specs.declared.faults.OrderFail.{OrderFail}
use Rattle.order_reader.specs.declared.faults.OrderFail.TheVariants.{Fault, Memory}

-- the fault of the first test that fails, where each test gives its fault or nothing
abbrev pub first_of : List (Option RowFault) → Option RowFault
first_of [] = None
first_of (None ∷ tests) = first_of tests
first_of (Some fault ∷ tests) = Some fault

-- Test 1: the row has a field for the id and for each number column of its header.
abbrev pub field_count_fault : List Field → Fields → Option RowFault
field_count_fault columns fields = if length fields == length columns + 1 then None else Some FieldCount

-- Test 2: the id has 1 to 40 bytes, each from 32 to 126.
unfoldable pub is_id : List ℕ → Bool
is_id id = nat_le 1 (length id) && (nat_le (length id) 40 && list_all (λ b. nat_le 32 b && nat_le b 126) id)

abbrev pub id_fault : OrderValue → Option RowFault
id_fault o = if is_id o.id then None else Some BadId

-- the text of a row under a number column, where the row has one
abbrev pub text_under : Fields → Field → Option (List ℕ)
text_under fields field = field_at fields (place_of field + 1)

-- the number that this text is
abbrev pub number_under : Fields → Field → Option ℕ
number_under fields field = option_and_then number_of (text_under fields field)

-- Test 3: the text under each number column of the header is a number; the leftmost that is none is named.
abbrev pub has_number : Fields → Field → Bool
has_number fields field = is_some (number_under fields field)

abbrev pub number_fault : List Field → Fields → Option RowFault
number_fault columns fields = option_map (λ field. BadNumber field) (find (λ field. not (has_number fields field)) columns)

-- the least and the greatest number that an order may have in a column
abbrev pub least_in : Field → ℕ
least_in PalletX = 1
least_in PalletY = 1
least_in CaseX = 1
least_in CaseY = 1
least_in CaseZ = 1
least_in Weight = 1
least_in MaxHeight = 1
least_in MaxWeight = 1
least_in Contact = 0
least_in Support = 0
least_in Cut = 0
least_in Gap = 0

-- the greatest gap keeps the pallet's sides, grown by it, within 4,000
abbrev pub greatest_gap_of : OrderValue → ℕ
greatest_gap_of o = min 100 (4000 - max (pallet_x_of o) (pallet_y_of o))

abbrev pub greatest_in : ℕ → Field → ℕ
greatest_in greatest_gap PalletX = 4000
greatest_in greatest_gap PalletY = 4000
greatest_in greatest_gap CaseX = 4000
greatest_in greatest_gap CaseY = 4000
greatest_in greatest_gap CaseZ = 10000
greatest_in greatest_gap Weight = 100000000
greatest_in greatest_gap MaxHeight = 10000
greatest_in greatest_gap MaxWeight = 100000000
greatest_in greatest_gap Contact = 100
greatest_in greatest_gap Support = 1
greatest_in greatest_gap Cut = 100
greatest_in greatest_gap Gap = greatest_gap

-- Test 4: each number is within its column's range; the leftmost that is not is named.
abbrev pub is_in_range : OrderValue → Field → Bool
is_in_range o field = nat_le (least_in field) (number_in o field) && nat_le (number_in o field) (greatest_in (greatest_gap_of o) field)

abbrev pub range_fault : OrderValue → Option RowFault
range_fault o = option_map (λ field. OutOfRange field) (find (λ field. not (is_in_range o field)) all_columns)

-- Test 5: a case fits on the pallet, with its longer side along x or along y.
unfoldable pub fits : ℕ → ℕ → ℕ → ℕ → Bool
fits pallet_x pallet_y long short =
    (nat_le long pallet_x && nat_le short pallet_y) || (nat_le short pallet_x && nat_le long pallet_y)

abbrev pub fit_fault : OrderValue → Option RowFault
fit_fault o = if fits (pallet_x_of o) (pallet_y_of o) (long_of o) (short_of o) then None else Some DoesNotFit

-- Test 6: the cells of the pallet, divided by those of a case, are at most 1,000, where each side is longer
-- by the gap.
unfoldable pub is_small : ℕ → ℕ → ℕ → ℕ → Bool
is_small pallet_x pallet_y long short = nat_le ((pallet_x * pallet_y) / (long * short)) 1000

abbrev pub case_count_fault : OrderValue → Option RowFault
case_count_fault o =
    if is_small (pallet_x_of o + gap_of o) (pallet_y_of o + gap_of o) (long_of o + gap_of o) (short_of o + gap_of o)
    then None else Some TooManyCases

-- the tests of the sides, of the numbers, and of an id with its numbers, each list in order
abbrev pub sides_fault : OrderValue → Option RowFault
sides_fault o = first_of (fit_fault o ∷ case_count_fault o ∷ [])

abbrev pub numbers_fault : OrderValue → Option RowFault
numbers_fault o = first_of (range_fault o ∷ fit_fault o ∷ case_count_fault o ∷ [])

abbrev pub order_fault : OrderValue → Option RowFault
order_fault o = first_of (id_fault o ∷ range_fault o ∷ fit_fault o ∷ case_count_fault o ∷ [])

-- an order has twelve numbers, and passes all tests
pub record IsOrder (o : OrderValue) : Type 0 where
  pub twelve : length o.numbers ≡ 12
  pub passes : order_fault o ≡ None

-- the id and the numbers that a row writes; a column that the row has no number under counts as 0, as the gap
-- does under the header without it
abbrev pub id_in : Fields → List ℕ
id_in fields = unwrap_or (field_at fields 0) []

abbrev pub value_under : Fields → Field → ℕ
value_under fields field = unwrap_or (number_under fields field) 0

abbrev pub order_in : Fields → OrderValue
order_in fields = order_with (id_in fields) (map (value_under fields) all_columns)

-- the fault of a row under these number columns: the first of the six tests that fails
abbrev pub row_fault : List Field → Fields → Option RowFault
row_fault columns fields = first_of (
    field_count_fault columns fields
    ∷ id_fault (order_in fields)
    ∷ number_fault columns fields
    ∷ range_fault (order_in fields)
    ∷ fit_fault (order_in fields)
    ∷ case_count_fault (order_in fields)
    ∷ [])

-- a refusal for another reason than memory tells this fault
abbrev pub TellsFault : Option RowFault → OrderFail → Type 0
TellsFault fault (Fault told) = fault ≡ Some told
TellsFault fault Memory = ⊤
