-- The table of the summary, with a row for each entry.
use Rattle.std.specs.Prelude.{ℕ, ◌==◌, if◌then◌else◌, List, length, ◌++◌, codes, decimal}
use Rattle.plan_entries.specs.declared.entries.Status.{Status}
use Rattle.plan_entries.specs.declared.entries.Status.TheVariants.{Optimal, StillOpen}
use Rattle.plan_entries.specs.declared.entries.Plan.{Plan}
use Rattle.plan_entries.specs.declared.entries.Entry.{Entry}
use Rattle.plan_entries.specs.declared.entries.Entry.TheVariants.{Planned, Refused}
use Rattle.stack_builder.specs.declared.lists.StackAnswer.{StackAnswer}
use Rattle.stack_builder.specs.declared.lists.StackAnswer.TheVariants.{Stack, Unmet}
use Rattle.page_pieces.specs.Pieces.{escaped, numbered}

-- the number of the row, the id of its order as a link to the sheet, and how many cases a layer has
unfoldable pub row_head : ℕ → ℕ → List ℕ → ℕ → List ℕ
row_head sheet number id count =
    codes "<tr><td>" ++ (decimal number ++ (codes "</td><th scope=\"row\"><a href=\"#sheet-" ++ (decimal sheet ++ (codes "\">" ++ (escaped id ++ (codes "</a></th><td>" ++ (decimal count ++ codes "</td>")))))))

-- whether no layer has more cases: proved, or how many no layer exceeds
unfoldable pub greatest_cell : Status → ℕ → List ℕ
greatest_cell Optimal bound = codes "<td class=\"proved\">proved</td>"
greatest_cell StillOpen bound = codes "<td class=\"open\">at most " ++ (decimal bound ++ codes "</td>")

-- so many layers
unfoldable pub layers_cell : ℕ → List ℕ
layers_cell count =
    if count == 0 then codes "<td>none</td></tr>\n"
    else if count == 1 then codes "<td>1 layer</td></tr>\n"
    else codes "<td>" ++ (decimal count ++ codes " layers</td></tr>\n")

-- how many layers the stack has, or that the rules that the order asks for are unmet
unfoldable pub stack_cell : StackAnswer → List ℕ
stack_cell (Stack numbers) = layers_cell (length numbers)
stack_cell (Unmet rules) = codes "<td class=\"unmet\">rules unmet</td></tr>\n"

unfoldable pub planned_row : ℕ → Plan → List ℕ
planned_row sheet p = row_head sheet p.number p.order.id p.count ++ (greatest_cell p.status p.bound ++ stack_cell p.stack)

-- a refused row has no plan to tell of
unfoldable pub refused_row : ℕ → ℕ → List ℕ
refused_row sheet number =
    codes "<tr><td>" ++ (decimal number ++ (codes "</td><th scope=\"row\"><a href=\"#sheet-" ++ (decimal sheet ++ codes "\">refused</a></th><td colspan=\"3\">no plan</td></tr>\n")))

-- the row of an entry, whose sheet has this number
unfoldable pub row_text : ℕ → Entry → List ℕ
row_text sheet (Planned p) = planned_row sheet p
row_text sheet (Refused number fault) = refused_row sheet number

-- the rows of all entries, whose sheets are numbered from 1
abbrev pub rows_text : List Entry → List ℕ
rows_text es = numbered row_text 1 es
