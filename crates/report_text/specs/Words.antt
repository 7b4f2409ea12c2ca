-- Reading an entry's lines, each by itself.
use Rattle.std.specs.Prelude.{ℕ, List, [], ◌∷◌, ◌++◌, codes, Option, Some, None, option_map, nat_le, take, drop, find, if◌then◌else◌}
use Rattle.std.specs.Str.{bytes_eq}
use Rattle.texts.specs.Lines.{words_of}
use Rattle.texts.specs.Words.{◌>>=◌, word_by, behind, number_up_to, numbers_by, all_words}
use Rattle.plan_geometry.specs.declared.instances.Inst.{Inst}
use Rattle.order_reader.specs.Columns.{column_name, columns_before_gap, all_columns}
use Rattle.order_reader.specs.Faults.{is_id}
use Rattle.order_reader.specs.Orders.{OrderValue, order_with}
use Rattle.order_reader.specs.declared.fields.Field.{Field}
use Rattle.order_reader.specs.declared.faults.RowFault.{RowFault}
use Rattle.order_reader.specs.declared.faults.RowFault.TheVariants as faults
use Rattle.cert_text.specs.declared.forms.Form.{Form}
use Rattle.cert_text.specs.declared.forms.Form.TheVariants.{One, Two}
use Rattle.plan_entries.specs.Ranges.{most_entries, most_cases, order_in_range}
use Rattle.plan_entries.specs.declared.entries.Status.{Status}
use Rattle.plan_entries.specs.declared.entries.Status.TheVariants.{Optimal, StillOpen}
use Rattle.report_text.specs.Sides.{inst_of}
use Rattle.report_text.specs.declared.faults.FaultName.{FaultName}
use Rattle.report_text.specs.declared.faults.FaultName.TheVariants as names
use Rattle.report_text.specs.declared.seconds.Second.{Second}
use Rattle.report_text.specs.declared.seconds.Second.TheVariants as seconds

-- a number from 1 on, as it is
abbrev pub from_one : ℕ → List (List ℕ) → Option (ℕ × List (List ℕ))
from_one n rest = if nat_le 1 n then Some (n, rest) else None

-- a name, and a number from 1 to the most
unfoldable pub named_at : List ℕ → ℕ → List (List ℕ) → Option (ℕ × List (List ℕ))
named_at name most ws = do
  rest ← behind name ws
  n ← word_by (number_up_to most) rest
  from_one n.0 n.1

unfoldable pub named_of : List ℕ → ℕ → List ℕ → Option ℕ
named_of name most line = all_words (named_at name most (words_of line))

abbrev pub number_of_line : Form → List ℕ → Option ℕ
number_of_line form = named_of (codes "entry") (most_entries form)

abbrev pub count_of_line : Form → List ℕ → Option ℕ
count_of_line form = named_of (codes "count") (most_cases form)

abbrev pub bound_of_line : Form → List ℕ → Option ℕ
bound_of_line form = named_of (codes "bound") (most_cases form)

abbrev pub status_of_line : List ℕ → Option Status
status_of_line line = if bytes_eq line (codes "status optimal") then Some Optimal else if bytes_eq line (codes "status open") then Some StillOpen else None

-- ---- a refused row

abbrev pub fault_name_of : List ℕ → Option FaultName
fault_name_of w =
    if bytes_eq w (codes "FieldCount") then Some names.FieldCount
    else if bytes_eq w (codes "BadId") then Some names.BadId
    else if bytes_eq w (codes "BadNumber") then Some names.BadNumber
    else if bytes_eq w (codes "OutOfRange") then Some names.OutOfRange
    else if bytes_eq w (codes "DoesNotFit") then Some names.DoesNotFit
    else if bytes_eq w (codes "TooManyCases") then Some names.TooManyCases
    else None

-- the number columns that have a name in the form
abbrev pub columns_named : Form → List Field
columns_named One = columns_before_gap
columns_named Two = all_columns

abbrev pub column_of : Form → List ℕ → Option Field
column_of form w = find (λ field. bytes_eq (column_name field) w) (columns_named form)

unfoldable pub fault_of_name : Form → FaultName → List (List ℕ) → Option (RowFault × List (List ℕ))
fault_of_name form names.FieldCount ws = Some (faults.FieldCount, ws)
fault_of_name form names.BadId ws = Some (faults.BadId, ws)
fault_of_name form names.BadNumber ws = do
  field ← word_by (column_of form) ws
  Some (faults.BadNumber field.0, field.1)
fault_of_name form names.OutOfRange ws = do
  field ← word_by (column_of form) ws
  Some (faults.OutOfRange field.0, field.1)
fault_of_name form names.DoesNotFit ws = Some (faults.DoesNotFit, ws)
fault_of_name form names.TooManyCases ws = Some (faults.TooManyCases, ws)

unfoldable pub fault_at : Form → List (List ℕ) → Option (RowFault × List (List ℕ))
fault_at form ws = do
  rest ← behind (codes "refused") ws
  name ← word_by fault_name_of rest
  fault_of_name form name.0 name.1

unfoldable pub fault_of_line : Form → List ℕ → Option RowFault
fault_of_line form line = all_words (fault_at form (words_of line))

-- what stands behind the first word of the line of an id
unfoldable pub id_of_line : List ℕ → Option (List ℕ)
id_of_line line = if bytes_eq (take 3 line) (codes "id ") then Some (drop 3 line) else None

abbrev pub id_if : List ℕ → Option (List ℕ)
id_if bytes = if is_id bytes then Some bytes else None

abbrev pub second_by : Option (List ℕ) → Option RowFault → Option Second
second_by (Some bytes) fault = option_map (λ id. seconds.Id id) (id_if bytes)
second_by None fault = option_map (λ f. seconds.Fault f) fault

-- the line of an id, or that of a fault
unfoldable pub second_of : Form → List ℕ → Option Second
second_of form line = second_by (id_of_line line) (fault_of_line form line)

-- ---- an order

-- how many numbers the line of an order has
abbrev pub number_count : Form → ℕ
number_count One = 11
number_count Two = 12

-- the twelve numbers of an order from those that the form writes
abbrev pub all_numbers : Form → List ℕ → List ℕ
all_numbers One numbers = numbers ++ 0 ∷ []
all_numbers Two numbers = numbers

unfoldable pub numbers_at : Form → List (List ℕ) → Option (List ℕ × List (List ℕ))
numbers_at form ws = do
  rest ← behind (codes "order") ws
  numbers_by 100000000 (number_count form) rest

unfoldable pub numbers_of_line : Form → List ℕ → Option (List ℕ)
numbers_of_line form line = option_map (all_numbers form) (all_words (numbers_at form (words_of line)))

-- the order of this id and these numbers, where the form has it
abbrev pub order_if : Form → OrderValue → Option OrderValue
order_if form o = if order_in_range form o then Some o else None

unfoldable pub order_of_line : Form → List ℕ → List ℕ → Option OrderValue
order_of_line form id line = do
  numbers ← numbers_of_line form line
  order_if form (order_with id numbers)

-- ---- the instance that was planned

unfoldable pub reduced_at : List (List ℕ) → Option (Inst × List (List ℕ))
reduced_at ws = do
  rest ← behind (codes "reduced") ws
  l ← word_by (number_up_to 4000) rest
  w ← word_by (number_up_to 4000) l.1
  long ← word_by (number_up_to 4000) w.1
  short ← word_by (number_up_to 4000) long.1
  option_map (λ inst. (inst, short.1)) (inst_of l.0 w.0 long.0 short.0)

unfoldable pub reduced_of_line : List ℕ → Option Inst
reduced_of_line line = all_words (reduced_at (words_of line))
