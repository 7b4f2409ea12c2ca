-- The sizes that a brief allows, and the row that each gives.
use Rattle.std.specs.Prelude.{◌≡◌, ℕ, ◌*◌, ◌<◌, ◌≤◌, ◌⊎◌, List, [], ◌∷◌, map, decimal, All, AllPairs, Contains}
use Rattle.std.specs.List.{enumerate_from}
use Rattle.order_reader.specs.Columns.{all_columns}
use Rattle.order_reader.specs.Rows.{row_of}
use Rattle.order_reader.specs.declared.rows.Row.{Row}
use Rattle.case_design.specs.declared.briefs.Brief.{Brief}
use Rattle.case_design.specs.declared.sizes.Size.{Size}

-- both sides are in their ranges, the shorter is no longer than the longer, and the area is at least the least
pub record IsSize (brief : Brief) (size : Size) : Type 0 where
  pub long_from : brief.long_from ≤ size.long
  pub long_to : size.long ≤ brief.long_to
  pub short_from : brief.short_from ≤ size.short
  pub short_to : size.short ≤ brief.short_to
  pub shorter : size.short ≤ size.long
  pub area : brief.least_area ≤ size.long * size.short

abbrev pub size_with : ℕ → ℕ → Size
size_with long short = record { long = long; short = short }

-- by the longer side, then by the shorter
abbrev pub ComesBefore : Size → Size → Type 0
ComesBefore a b = (a.long < b.long) ⊎ ((a.long ≡ b.long) × (a.short < b.short))

-- The list has the sizes of this kind and no others, and each comes before those behind it, so that none stands twice.
pub record Lists (Kind : Size → Type 0) (sizes : List Size) : Type 0 where
  pub each : All Kind sizes
  pub whole : (size : Size) → Kind size → Contains sizes size
  pub rising : AllPairs ComesBefore sizes

-- the list of a brief's sizes
abbrev pub AreSizes : Brief → List Size → Type 0
AreSizes brief sizes = Lists (IsSize brief) sizes

-- The numbers of an order for cases of this size, in the order of an orders file: height, weight and greatest height 1, the
-- greatest weight 100,000,000, no rule of contact, and no gap.
abbrev pub size_numbers : Brief → Size → List ℕ
size_numbers brief size =
    brief.pallet_x ∷ brief.pallet_y ∷ size.long ∷ size.short ∷ 1 ∷ 1 ∷ 1 ∷ 100000000 ∷ 0 ∷ 0 ∷ 100 ∷ 0 ∷ []

-- the row of this number that an orders file has by that id and these numbers
abbrev pub size_row : List ℕ → Brief → ℕ → Size → Row
size_row id brief number size = row_of all_columns number (id ∷ map decimal (size_numbers brief size))

-- the rows of a list of sizes, numbered from 1
abbrev pub size_rows : List ℕ → Brief → List Size → List Row
size_rows id brief sizes = map (λ p. size_row id brief p.0 p.1) (enumerate_from 1 sizes)
