-- The lines of an entry, each by itself.
use Rattle.std.specs.Prelude.{ℕ, List, [], ◌∷◌, ◌++◌, map, take, codes, decimal}
use Rattle.texts.specs.Lines.{spaced}
use Rattle.plan_geometry.specs.declared.instances.Inst.{Inst}
use Rattle.order_reader.specs.Columns.{column_name}
use Rattle.order_reader.specs.Orders.{OrderValue}
use Rattle.order_reader.specs.declared.faults.RowFault.{RowFault}
use Rattle.order_reader.specs.declared.faults.RowFault.TheVariants.{FieldCount, BadId, BadNumber, OutOfRange, DoesNotFit, TooManyCases}
use Rattle.cert_text.specs.declared.forms.Form.{Form}
use Rattle.cert_text.specs.declared.forms.Form.TheVariants.{One, Two}
use Rattle.plan_entries.specs.declared.entries.Status.{Status}
use Rattle.plan_entries.specs.declared.entries.Status.TheVariants.{Optimal, StillOpen}

abbrev pub number_words : ℕ → List (List ℕ)
number_words n = codes "entry" ∷ decimal n ∷ []

-- the id may have spaces
abbrev pub id_line : List ℕ → List ℕ
id_line id = codes "id " ++ id

-- a fault by its name, and by the column of the number at fault
abbrev pub fault_words : RowFault → List (List ℕ)
fault_words FieldCount = codes "refused" ∷ codes "FieldCount" ∷ []
fault_words BadId = codes "refused" ∷ codes "BadId" ∷ []
fault_words (BadNumber field) = codes "refused" ∷ codes "BadNumber" ∷ column_name field ∷ []
fault_words (OutOfRange field) = codes "refused" ∷ codes "OutOfRange" ∷ column_name field ∷ []
fault_words DoesNotFit = codes "refused" ∷ codes "DoesNotFit" ∷ []
fault_words TooManyCases = codes "refused" ∷ codes "TooManyCases" ∷ []

abbrev pub fault_line : RowFault → List ℕ
fault_line fault = spaced (fault_words fault)

-- the numbers of an order in the order of the file; the first form has no gap
abbrev pub numbers_written : Form → OrderValue → List ℕ
numbers_written One o = take 11 o.numbers
numbers_written Two o = o.numbers

abbrev pub order_words : Form → OrderValue → List (List ℕ)
order_words form o = codes "order" ∷ map decimal (numbers_written form o)

-- the four numbers of the instance that was planned
abbrev pub reduced_words : Inst → List (List ℕ)
reduced_words I = codes "reduced" ∷ decimal I.l_side ∷ decimal I.w_side ∷ decimal I.long ∷ decimal I.short ∷ []

abbrev pub count_words : ℕ → List (List ℕ)
count_words n = codes "count" ∷ decimal n ∷ []

abbrev pub bound_words : ℕ → List (List ℕ)
bound_words n = codes "bound" ∷ decimal n ∷ []

abbrev pub status_line : Status → List ℕ
status_line Optimal = codes "status optimal"
status_line StillOpen = codes "status open"

abbrev pub end_line : List ℕ
end_line = codes "end"
