-- Reading the line of a total.
use Rattle.std.specs.Prelude.{ℕ, Bool, true, false, List, codes, Option, Some, None, option_map, nat_le, ◌&&◌, if◌then◌else◌}
use Rattle.std.specs.Str.{bytes_eq}
use Rattle.plan_io.specs.Numbers.{number_of}
use Rattle.texts.specs.Lines.{words_of}
use Rattle.texts.specs.Words.{◌>>=◌, word_by, behind, number_up_to, all_words}
use Rattle.truck_floor.specs.declared.totals.Total.{Total}
use Rattle.truck_floor.specs.declared.totals.TotalLine.{TotalLine}
use Rattle.truck_floor.specs.declared.totals.TotalLine.TheVariants.{Numbers, Nothing}

-- a number of pallets, from 1 to 1,000
abbrev pub some_pallets : ℕ → Option ℕ
some_pallets n = if nat_le 1 n && nat_le n 1000 then Some n else None

abbrev pub pallets_of : List ℕ → Option ℕ
pallets_of word = number_of word >>= some_pallets

-- a number of pallets and a number of cases, as 34 x 56
unfoldable pub product_at : List (List ℕ) → Option ((ℕ × ℕ) × List (List ℕ))
product_at ws = do
  pallets ← word_by pallets_of ws
  rest ← behind (codes "x") pallets.1
  cases ← word_by (number_up_to 10000000) rest
  Some ((pallets.0, cases.0), cases.1)

-- whether the word is `optimal`, and not `open`
unfoldable pub optimal_of : List ℕ → Option Bool
optimal_of word =
    if bytes_eq word (codes "optimal") then Some true
    else (if bytes_eq word (codes "open") then Some false else None)

abbrev pub total_with : ℕ × ℕ → ℕ × ℕ → Bool → Total
total_with reached most optimal =
    record { pallets = reached.0; cases = reached.1; pallet_bound = most.0; case_bound = most.1; optimal = optimal }

unfoldable pub numbers_at : List (List ℕ) → Option (Total × List (List ℕ))
numbers_at ws = do
  rest ← behind (codes "total") ws
  reached ← product_at rest
  rest ← behind (codes "of") reached.1
  most ← product_at rest
  optimal ← word_by optimal_of most.1
  Some (total_with reached.0 most.0 optimal.0, optimal.1)

unfoldable pub numbers_of : List ℕ → Option Total
numbers_of line = all_words (numbers_at (words_of line))

-- a total, or that there is none
unfoldable pub total_of : List ℕ → Option TotalLine
total_of line =
    if bytes_eq line (codes "total none") then Some Nothing else option_map (λ t. Numbers t) (numbers_of line)
