-- Why a row was refused, in words.
use Rattle.std.specs.Prelude.{ℕ, List, ◌++◌, codes, decimal}
use Rattle.order_reader.specs.Columns.{column_name}
use Rattle.order_reader.specs.Faults.{least_in, greatest_in}
use Rattle.order_reader.specs.declared.fields.Field.{Field}
use Rattle.order_reader.specs.declared.fields.Field.TheVariants.{Gap}
use Rattle.order_reader.specs.declared.faults.RowFault.{RowFault}
use Rattle.order_reader.specs.declared.faults.RowFault.TheVariants.{FieldCount, BadId, BadNumber, OutOfRange, DoesNotFit, TooManyCases}

-- what is said of a column that has no number, which is named as the header of the orders file has it
unfoldable pub no_number : Field → List ℕ
no_number field =
    codes "What stands under " ++ (column_name field ++ codes " is no number: a number is 0, or one to ten digits of which the first is not 0.")

-- what is said of a gap beyond its greatest number: it has to leave room beside the pallet too
abbrev pub range_end : Field → List ℕ
range_end Gap = codes ", or together with a side of the pallet it is more than 4000."
range_end field = codes "."

-- which numbers the column allows
unfoldable pub range_words : Field → List ℕ
range_words field = codes " is not from " ++ (decimal (least_in field) ++ (codes " to " ++ (decimal (greatest_in 100 field) ++ range_end field)))

-- what is said of a column whose number is out of its range, which is named likewise
unfoldable pub out_of_range : Field → List ℕ
out_of_range field = codes "The number under " ++ (column_name field ++ range_words field)

-- the first test that the row fails
unfoldable pub fault_words : RowFault → List ℕ
fault_words FieldCount = codes "The row does not have as many fields as the header."
fault_words BadId = codes "The id does not have 1 to 40 characters, each of them printable ASCII."
fault_words (BadNumber field) = no_number field
fault_words (OutOfRange field) = out_of_range field
fault_words DoesNotFit = codes "The case does not fit on the pallet, not even when it is turned by a quarter."
fault_words TooManyCases = codes "By area more than 1000 cases would fit in a layer."

-- the head of the sheet of a refused row
unfoldable pub refused_head : ℕ → ℕ → List ℕ
refused_head sheet number =
    codes "<section class=\"sheet refused\" id=\"sheet-" ++ (decimal sheet ++ (codes "\"><h2>Row " ++ (decimal number ++ codes " was refused</h2><p>")))
