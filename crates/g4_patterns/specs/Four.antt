-- The numbers of four blocks.
use Rattle.std.specs.Prelude.{ℕ, ◌*◌, ◌≤◌, List, length}
use Rattle.plan_geometry.specs.declared.instances.Inst.{Inst}
use Rattle.block_tables.specs.declared.patterns.Pattern.TheVariants.{Four}
use Rattle.block_tables.specs.Numbers.{IsNumber, IsGreatestOf}

-- n is a number of the a by b block: that of the better grid, or the sum of such numbers of the four outer
-- parts of a cut, each part's sides rounded down to normal places, where the centre counts as 0
abbrev pub FourAll : Inst → ℕ → ℕ → ℕ → Type 0
FourAll I = IsNumber I Four

-- n is the greatest of these numbers for the pallet, its sides rounded down
abbrev pub IsGreatestFour : Inst → ℕ → Type 0
IsGreatestFour I n = IsGreatestOf I Four n

-- the sides have few enough normal places
pub record IsFourSize (xs ys : List ℕ) : Type 0 where
  pub product : length xs * length ys ≤ 10000
  pub x_few : length xs ≤ 200
  pub y_few : length ys ≤ 200

-- the law of cells: the cells of so many cases are at most those of the block
abbrev pub FourCellsLaw : Type 0
FourCellsLaw = (I : Inst) (a b n : ℕ) → FourAll I a b n → n * (I.long * I.short) ≤ a * b
