-- What each row of an orders file is.
use Rattle.std.specs.Prelude.{ℕ, List, [], ◌∷◌, map, Option, Some, None, option_map}
use Rattle.std.specs.List.{enumerate_from}
use Rattle.order_reader.specs.Records.{Fields, records_of}
use Rattle.order_reader.specs.Columns.{columns_under}
use Rattle.order_reader.specs.Faults.{row_fault, order_in}
use Rattle.order_reader.specs.declared.fields.Field.{Field}
use Rattle.order_reader.specs.declared.faults.RowFault.{RowFault}
use Rattle.order_reader.specs.declared.rows.Row.{Row}
use Rattle.order_reader.specs.declared.rows.Row.TheVariants.{Order, Refused}

-- a row by its number, its fields and its fault
abbrev pub row_with : ℕ → Fields → Option RowFault → Row
row_with number fields None = Order (order_in fields)
row_with number fields (Some fault) = Refused number fault

-- the row of this number, under these number columns
unfoldable pub row_of : List Field → ℕ → Fields → Row
row_of columns number fields = row_with number fields (row_fault columns fields)

-- the rows of records under these number columns, numbered from 1
abbrev pub rows_of_records : List Field → List Fields → List Row
rows_of_records columns records = map (λ p. row_of columns p.0 p.1) (enumerate_from 1 records)

-- the rows of all records after the first, where the first is a header
abbrev pub rows_under : List Fields → Option (List Row)
rows_under [] = None
rows_under (first ∷ rest) = option_map (λ columns. rows_of_records columns rest) (columns_under first)

-- the rows of a file
abbrev pub rows_of : List ℕ → Option (List Row)
rows_of bytes = rows_under (records_of bytes)
