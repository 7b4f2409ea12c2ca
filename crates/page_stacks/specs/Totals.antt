-- What a stack has in all.
use Rattle.std.specs.Prelude.{ℕ, ◌*◌, ◌==◌, List, ◌++◌, codes, decimal, if◌then◌else◌}
use Rattle.order_reader.specs.Orders.{case_z_of, weight_of}
use Rattle.plan_entries.specs.declared.entries.Plan.{Plan}
use Rattle.page_words.specs.Kilograms.{kilograms}

-- so many cases
abbrev pub cases_text : ℕ → List ℕ
cases_text cases = if cases == 1 then codes "<b>1 case</b>" else codes "<b>" ++ (decimal cases ++ codes " cases</b>")

-- the height, in the order's unit of length, and the weight
unfoldable pub size_text : ℕ → ℕ → List ℕ
size_text height grams = codes ", " ++ (decimal height ++ (codes " high, " ++ (kilograms grams ++ codes " kg</p>\n")))

-- all three
unfoldable pub total_text : ℕ → ℕ → ℕ → List ℕ
total_text cases height grams = codes "<p class=\"total\">" ++ (cases_text cases ++ size_text height grams)

-- those of a stack of so many layers of a plan
unfoldable pub plan_total : Plan → ℕ → List ℕ
plan_total p layers = total_text (p.count * layers) (case_z_of p.order * layers) (p.count * layers * weight_of p.order)
