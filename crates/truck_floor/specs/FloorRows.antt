-- The rows of a floors file: each of its rows gives two, the order of the floor and that of the load.
use Rattle.std.specs.Prelude.{ℕ, ◌≡◌, ◌-◌, ◌*◌, ◌==◌, if◌then◌else◌, codes, List, [], ◌∷◌, ◌++◌, length, map, take, drop, Option, Some, None}
use Rattle.std.specs.List.{enumerate_from, flat_map}
use Rattle.order_reader.specs.Records.{Fields, records_of}
use Rattle.order_reader.specs.Columns.{column_name, all_columns, same_fields}
use Rattle.order_reader.specs.Orders.{OrderValue, pallet_x_of, pallet_y_of}
use Rattle.order_reader.specs.Rows.{row_of}
use Rattle.order_reader.specs.declared.rows.Row.{Row}
use Rattle.order_reader.specs.declared.rows.Row.TheVariants.{Refused}
use Rattle.order_reader.specs.declared.faults.RowFault.TheVariants.{FieldCount}

-- the header: the id, the floor's sides, and the number columns of an order, the gap among them
abbrev pub floor_header : Fields
floor_header = codes "id" ∷ codes "floor_x" ∷ codes "floor_y" ∷ map column_name all_columns

-- The columns of a floor's order that no row gives: height, weight and greatest height 1, greatest weight 100,000,000,
-- no rule of contact, and no gap.
abbrev pub fixed_fields : Fields
fixed_fields =
    codes "1" ∷ codes "1" ∷ codes "1" ∷ codes "100000000" ∷ codes "0" ∷ codes "0" ∷ codes "100" ∷ codes "0" ∷ []

-- the order of the floor: id, floor_x, floor_y, pallet_x and pallet_y of the row, and the fixed columns
abbrev pub floor_fields : Fields → Fields
floor_fields fields = take 5 fields ++ fixed_fields

-- the order of the load: the id of the row and its last twelve fields
abbrev pub load_fields : Fields → Fields
load_fields fields = take 1 fields ++ drop 3 fields

-- what an order of a row is, where the row has its fifteen fields
abbrev pub row_by : Fields → ℕ → Fields → Row
row_by fields number own =
    if length fields == 15 then row_of all_columns number own else Refused number FieldCount

-- the two orders of the k-th row, from 1
abbrev pub both_rows : ℕ → Fields → List Row
both_rows k fields = row_by fields (2 * k - 1) (floor_fields fields) ∷ row_by fields (2 * k) (load_fields fields) ∷ []

-- those of all rows, in order
abbrev pub rows_of_floors : List Fields → List Row
rows_of_floors floors = flat_map (λ p. both_rows p.0 p.1) (enumerate_from 1 floors)

-- the rows of a file, where the first record is the header
abbrev pub floors_under : List Fields → Option (List Fields)
floors_under [] = None
floors_under (first ∷ rest) = if same_fields first floor_header then Some rest else None

abbrev pub floors_of : List ℕ → Option (List Fields)
floors_of bytes = floors_under (records_of bytes)

-- The first order is that of a floor for the loaded pallets of the second: behind the sides of the floor stand those of
-- the pallet, along x and along y, as the case, and the fixed numbers.
abbrev pub IsFloorFor : OrderValue → OrderValue → Type 0
IsFloorFor f o =
    drop 2 f.numbers ≡ pallet_x_of o ∷ pallet_y_of o ∷ 1 ∷ 1 ∷ 1 ∷ 100000000 ∷ 0 ∷ 0 ∷ 100 ∷ 0 ∷ []
