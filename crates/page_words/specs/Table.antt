-- The head of an order's sheet, and the table of what was ordered. All lengths of an order are in one unit, which it
-- does not name; weights are in grams.
use Rattle.std.specs.Prelude.{ℕ, List, ◌++◌, codes, decimal}
use Rattle.order_reader.specs.Orders.{OrderValue, pallet_x_of, pallet_y_of, case_x_of, case_y_of, case_z_of, weight_of, max_height_of, max_weight_of, gap_of}
use Rattle.stack_builder.specs.Orders.{rules_of}
use Rattle.page_pieces.specs.Pieces.{escaped}
use Rattle.page_words.specs.Kilograms.{kilograms}
use Rattle.page_words.specs.Rules.{rules_words}

-- the place of the sheet in the report, and the row's number and id
unfoldable pub sheet_head : ℕ → ℕ → List ℕ → List ℕ
sheet_head sheet number id =
    codes "<section class=\"sheet\" id=\"sheet-" ++ (decimal sheet ++ (codes "\">\n<h2>Row " ++ (decimal number ++ (codes ": <b>" ++ (escaped id ++ codes "</b></h2>\n")))))

-- the pallet's sides along x and along y
unfoldable pub pallet_row : ℕ → ℕ → List ℕ
pallet_row pallet_x pallet_y = codes "<tr><th scope=\"row\">Pallet</th><td>" ++ (decimal pallet_x ++ (codes " by " ++ (decimal pallet_y ++ codes "</td></tr>\n")))

-- a case's two sides in the layer, and its height
unfoldable pub case_sides : ℕ → ℕ → ℕ → List ℕ
case_sides case_x case_y case_z =
    codes "<tr><th scope=\"row\">Case</th><td>" ++ (decimal case_x ++ (codes " by " ++ (decimal case_y ++ (codes ", " ++ (decimal case_z ++ codes " high, ")))))

-- a case's sides, height and weight
unfoldable pub case_row : ℕ → ℕ → ℕ → ℕ → List ℕ
case_row case_x case_y case_z weight = case_sides case_x case_y case_z ++ (kilograms weight ++ codes " kg</td></tr>\n")

-- how far two cases of a layer are apart at least
unfoldable pub gap_row : ℕ → List ℕ
gap_row gap = codes "<tr><th scope=\"row\">Gap between cases</th><td>" ++ (decimal gap ++ codes "</td></tr>\n")

-- the greatest height of the stack
unfoldable pub height_limit : ℕ → List ℕ
height_limit height = codes "<tr><th scope=\"row\">Stack at most</th><td>" ++ (decimal height ++ codes " high, ")

-- the greatest height of the stack, and the greatest weight of all its cases
unfoldable pub limits_row : ℕ → ℕ → List ℕ
limits_row height weight = height_limit height ++ (kilograms weight ++ codes " kg of cases</td></tr>\n")

-- what stands on the pallet
unfoldable pub sizes_rows : OrderValue → List ℕ
sizes_rows o =
    pallet_row (pallet_x_of o) (pallet_y_of o)
    ++ (case_row (case_x_of o) (case_y_of o) (case_z_of o) (weight_of o)
    ++ gap_row (gap_of o))

-- the rules that the order asks for
unfoldable pub rules_row : OrderValue → List ℕ
rules_row o = codes "<tr><th scope=\"row\">Rules asked for</th><td>" ++ (rules_words (rules_of o) ++ codes "</td></tr>\n")

-- what the stack has to keep
unfoldable pub asked_rows : OrderValue → List ℕ
asked_rows o = limits_row (max_height_of o) (max_weight_of o) ++ rules_row o

-- the whole table
unfoldable pub order_table : OrderValue → List ℕ
order_table o = codes "<table><caption>The order</caption>\n" ++ (sizes_rows o ++ (asked_rows o ++ codes "</table>\n"))
