-- What holds of each brief, of each file and of each best size.
use Rattle.std.specs.Prelude.{◌≡◌, ℕ, ◌≤◌, ⊤, List, map, Option, Some, None, option_map, IfSome}
use Rattle.std.specs.List.{AllByRecursion}
use Rattle.order_reader.specs.Records.{Fields}
use Rattle.order_reader.specs.Faults.{id_in, sides_fault}
use Rattle.order_reader.specs.Orders.{OrderValue, order_with}
use Rattle.order_reader.specs.declared.faults.RowFault.{RowFault}
use Rattle.order_reader.specs.declared.rows.Row.{Row}
use Rattle.order_reader.specs.declared.rows.Row.TheVariants as rows
use Rattle.case_design.specs.declared.briefs.Brief.{Brief}
use Rattle.case_design.specs.declared.sizes.Size.{Size}
use Rattle.case_design.specs.declared.designs.Design.{Design}
use Rattle.case_design.specs.declared.designs.Design.TheVariants.{Nothing, Refused, Rows}
use Rattle.case_design.specs.declared.best.Cover.{Cover}
use Rattle.case_design.specs.Briefs.{IsBriefOf}
use Rattle.case_design.specs.Sizes.{IsSize, AreSizes, size_numbers, size_row}
use Rattle.case_design.specs.Designs.{IsDesignOf, HasNoHeader, HasManyRows}
use Rattle.case_design.specs.Bests.{IsBest}
use Rattle.case_design.specs.Text.{covers_told, may_told, best_text}

-- the one list of a brief's sizes
pub record IsOnlyList (brief : Brief) (sizes : List Size) : Type 0 where
  pub are_sizes : AreSizes brief sizes
  pub only : (others : List Size) → AreSizes brief others → others ≡ sizes

-- each brief has one
abbrev pub SizesAreOne : Type 0
SizesAreOne = (brief : Brief) → (sizes : List Size) × IsOnlyList brief sizes

-- the order for cases of a size
abbrev pub size_order : List ℕ → Brief → Size → OrderValue
size_order id brief size = order_with id (size_numbers brief size)

-- the row of an order: the order itself, or refused for this fault
abbrev pub row_with_fault : ℕ → OrderValue → Option RowFault → Row
row_with_fault number order None = rows.Order order
row_with_fault number order (Some fault) = rows.Refused number fault

-- Of the tests of an order, a size of a brief can only fail those of its sides: its row is the order for its cases, or is
-- refused since a case does not fit on the pallet, or since too many may.
abbrev pub SizeRowsAreOrders : Type 0
SizeRowsAreOrders =
    (row : Fields) (brief : Brief) (size : Size) (number : ℕ) → IsBriefOf row brief → IsSize brief size
    → let order = size_order (id_in row) brief size in size_row (id_in row) brief number size ≡ row_with_fault number order (sides_fault order)

-- two designs say the same
abbrev pub SayTheSame : Design → Design → Type 0
SayTheSame Nothing Nothing = ⊤
SayTheSame Nothing (Refused g) = ⊥
SayTheSame Nothing (Rows j s) = ⊥
SayTheSame (Refused f) Nothing = ⊥
SayTheSame (Refused f) (Refused g) = f ≡ g
SayTheSame (Refused f) (Rows j s) = ⊥
SayTheSame (Rows i r) Nothing = ⊥
SayTheSame (Rows i r) (Refused g) = ⊥
SayTheSame (Rows i r) (Rows j s) = (i.items ≡ j.items) × (r.items ≡ s.items)

-- no file has two designs, nor a design where it has no header or too many rows, nor both of these
pub record HasOneAnswer (bytes : List ℕ) : Type 0 where
  pub one : (a b : Design) → IsDesignOf bytes a → IsDesignOf bytes b → SayTheSame a b
  pub header : (a : Design) → IsDesignOf bytes a → ¬ HasNoHeader bytes
  pub rows : (a : Design) → IsDesignOf bytes a → ¬ HasManyRows bytes
  pub stop : HasManyRows bytes → ¬ HasNoHeader bytes

abbrev pub FilesHaveOneAnswer : Type 0
FilesHaveOneAnswer = (bytes : List ℕ) → HasOneAnswer bytes

-- no list of entries has two bests, nor two lists of rivals
abbrev pub BestsAreOne : Type 0
BestsAreOne =
    (covers : List Cover) (b c : Option Cover) (rivals others : List Cover) → IsBest covers b rivals → IsBest covers c others → (b ≡ c) × (rivals ≡ others)

-- two numbers of at most ten digits, as those of 32 bits are
abbrev pub IsWritten : ℕ × ℕ → Type 0
IsWritten told = (told.0 ≤ 9999999999) × (told.1 ≤ 9999999999)

-- no text is that of two bests, or of two lists of rivals, of which different things are told
abbrev pub BestsHaveOneText : Type 0
BestsHaveOneText =
    (b c : Option Cover) (rivals others : List Cover) → IfSome (option_map covers_told b) IsWritten → IfSome (option_map covers_told c) IsWritten
    → AllByRecursion IsWritten (map may_told rivals) → AllByRecursion IsWritten (map may_told others)
    → best_text b rivals ≡ best_text c others → (option_map covers_told b ≡ option_map covers_told c) × (map may_told rivals ≡ map may_told others)
