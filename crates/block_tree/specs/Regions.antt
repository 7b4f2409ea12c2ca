-- L-regions: the cells that they hold, which of them are rectangles, and their sides.
use Rattle.std.specs.Prelude.{ℕ, Bool, true, ◌⊎◌, ◌+◌, ◌-◌, ◌*◌, ◌≤◌, ◌<◌, ◌≡◌, ◌==◌, ◌||◌, ◌↔◌, if◌then◌else◌}
use Rattle.block_tree.specs.declared.regions.Region.{Region}

-- the cell whose corner of least x and y is (i, j) lies in the region
abbrev pub Holds : Region → ℕ → ℕ → Type 0
Holds r i j = (i < r.big_x) × (j < r.big_y) × ((i < r.small_x) ⊎ (j < r.small_y))

abbrev pub IsOrdered : Region → Type 0
IsOrdered r = (r.small_x ≤ r.big_x) × (r.small_y ≤ r.big_y)

abbrev pub is_rectangle : Region → Bool
is_rectangle r = (r.small_x == r.big_x) || (r.small_y == r.big_y) || (r.small_x == 0) || (r.small_y == 0)

-- the sides of a region that is a rectangle, by the first rule that applies
abbrev pub side_x : Region → ℕ
side_x r = if (r.small_x == r.big_x) || (r.small_y == r.big_y) || (r.small_x == 0) then r.big_x else r.small_x

abbrev pub side_y : Region → ℕ
side_y r = if (r.small_x == r.big_x) || (r.small_y == r.big_y) then r.big_y else (if r.small_x == 0 then r.small_y else r.big_y)

abbrev pub region : ℕ → ℕ → ℕ → ℕ → Region
region big_x big_y small_x small_y = record { big_x = big_x; big_y = big_y; small_x = small_x; small_y = small_y }

-- the rectangle of these sides
abbrev pub rectangle : ℕ → ℕ → Region
rectangle a b = region a b a b

-- each of the four numbers is at most that of the other region
abbrev pub Within : Region → Region → Type 0
Within r p = (r.big_x ≤ p.big_x) × (r.big_y ≤ p.big_y) × (r.small_x ≤ p.small_x) × (r.small_y ≤ p.small_y)

-- the number of cells
abbrev pub area : Region → ℕ
area r = r.small_x * r.big_y + (r.big_x - r.small_x) * r.small_y

-- the law of the sides: a region that is a rectangle holds the cells of the rectangle of its sides
abbrev pub SidesLaw : Type 0
SidesLaw = (r : Region) → IsOrdered r → is_rectangle r ≡ true → (i j : ℕ) → Holds r i j ↔ ((i < side_x r) × (j < side_y r))

-- the law of the area of such a region
abbrev pub AreaLaw : Type 0
AreaLaw = (r : Region) → IsOrdered r → is_rectangle r ≡ true → area r ≡ side_x r * side_y r
