-- The sixteen made orders of a number.
use Rattle.std.specs.Prelude.{ℕ, ◌+◌, ◌*◌, List, [], ◌∷◌, ◌++◌, map, codes, decimal}
use Rattle.std.specs.List.{range_with_len}
use Rattle.order_reader.specs.Orders.{OrderValue, order_with}
use Rattle.order_reader.specs.Faults.{IsOrder}
use Rattle.order_reader.specs.declared.rows.Row.{Row}
use Rattle.order_reader.specs.declared.rows.Row.TheVariants as row
use Rattle.made_orders.specs.Draws.{state_after, drawn}

-- The sides of the case, by the first two draws from a start.
abbrev pub short_side : ℕ → ℕ
short_side start = 2 + drawn start 1 3

abbrev pub long_side : ℕ → ℕ
long_side start = short_side start + 1 + drawn start 2 3

-- The sides of the pallet, by the next four: some long sides, and a rest below the short side.
abbrev pub pallet_x : ℕ → ℕ
pallet_x start = long_side start * (3 + drawn start 3 4) + drawn start 4 (short_side start)

abbrev pub pallet_y : ℕ → ℕ
pallet_y start = long_side start * (2 + drawn start 5 3) + drawn start 6 (short_side start)

-- the numbers of an order, in the order of the file; all but the sides are the same in each made order
unfoldable pub made_numbers : ℕ → List ℕ
made_numbers start =
    pallet_x start ∷ pallet_y start ∷ long_side start ∷ short_side start ∷ 100 ∷ 1000 ∷ 1000 ∷ 1000000 ∷ 60 ∷ 1 ∷ 100 ∷ 0 ∷ []

-- the id of a row: `t` and the row's number
unfoldable pub made_id : ℕ → List ℕ
made_id number = codes "t" ++ decimal number

-- The order at a place from 0, whose row has the number that is greater by 1. Each order takes six draws.
abbrev pub made_order : ℕ → ℕ → OrderValue
made_order seed place = order_with (made_id (place + 1)) (made_numbers (state_after seed (6 * place)))

-- the first made orders, so many, each as an accepted row
unfoldable pub first_made_rows : ℕ → ℕ → List Row
first_made_rows seed count = map (λ place. row.Order (made_order seed place)) (range_with_len 0 count)

-- all sixteen
abbrev pub made_rows_of : ℕ → List Row
made_rows_of seed = first_made_rows seed 16

-- the row is an order that passes all tests
abbrev pub IsAccepted : Row → Type 0
IsAccepted (row.Order o) = IsOrder o
IsAccepted (row.Refused number fault) = ⊥
