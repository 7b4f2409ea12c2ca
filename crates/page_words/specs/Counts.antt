-- How many cases a layer has, whether another layer could have more, and how much of the pallet they cover.
use Rattle.std.specs.Prelude.{ℕ, ◌*◌, ◌/◌, ◌%◌, ◌==◌, if◌then◌else◌, List, ◌++◌, codes, decimal}
use Rattle.order_reader.specs.Orders.{OrderValue, pallet_x_of, pallet_y_of, case_x_of, case_y_of}
use Rattle.plan_entries.specs.declared.entries.Status.{Status}
use Rattle.plan_entries.specs.declared.entries.Status.TheVariants.{Optimal, StillOpen}

-- the cases of a layer
unfoldable pub cases_a_layer : ℕ → List ℕ
cases_a_layer count = decimal count ++ (if count == 1 then codes " case a layer" else codes " cases a layer")

-- what is known of every other layer: it has no more cases, or none beyond the bound
unfoldable pub most_words : Status → ℕ → List ℕ
most_words Optimal bound = codes "</b>; none can have more</p>\n"
most_words StillOpen bound = codes "</b>; none can have more than " ++ (decimal bound ++ codes "</p>\n")

-- the count, and what is known of it
unfoldable pub count_line : ℕ → ℕ → Status → List ℕ
count_line count bound status = codes "<p class=\"count\"><b>" ++ (cases_a_layer count ++ most_words status bound)

-- the area of so many cases, in thousandths of the pallet's, rounded down
abbrev pub thousandths_covered : OrderValue → ℕ → ℕ
thousandths_covered o count = (1000 * count * case_x_of o * case_y_of o) / (pallet_x_of o * pallet_y_of o)

-- what covers the pallet
abbrev pub cover_by : ℕ → List ℕ
cover_by count = if count == 1 then codes "<p>It covers " else codes "<p>They cover "

-- a percentage with one place, of so many thousandths
unfoldable pub percent_words : ℕ → List ℕ
percent_words thousandths = decimal (thousandths / 10) ++ (codes "." ++ (decimal (thousandths % 10) ++ codes " percent of the pallet (rounded down).</p>\n"))

-- how much of the pallet the cases of a layer cover
unfoldable pub cover_line : OrderValue → ℕ → List ℕ
cover_line o count = cover_by count ++ percent_words (thousandths_covered o count)
