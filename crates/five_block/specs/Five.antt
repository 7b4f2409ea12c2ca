-- The numbers of five blocks.
use Rattle.std.specs.Prelude.{ℕ, ◌*◌, ◌≤◌, List, length}
use Rattle.plan_geometry.specs.declared.instances.Inst.{Inst}
use Rattle.block_tables.specs.declared.patterns.Pattern.TheVariants.{Five}
use Rattle.block_tables.specs.Numbers.{IsNumber, IsGreatestOf}

-- n is a number of the a by b block: that of the better grid, or the sum of such numbers of the five parts of
-- a cut, each part's sides rounded down to normal places
abbrev pub FiveAll : Inst → ℕ → ℕ → ℕ → Type 0
FiveAll I = IsNumber I Five

-- n is the greatest of these numbers for the pallet, its sides rounded down
abbrev pub IsGreatestFive : Inst → ℕ → Type 0
IsGreatestFive I n = IsGreatestOf I Five n

-- the sides have few enough normal places
pub record IsFiveSize (xs ys : List ℕ) : Type 0 where
  pub product : length xs * length ys ≤ 2500
  pub x_few : length xs ≤ 200
  pub y_few : length ys ≤ 200

-- the law of cells: the cells of so many cases are at most those of the block
abbrev pub FiveCellsLaw : Type 0
FiveCellsLaw = (I : Inst) (a b n : ℕ) → FiveAll I a b n → n * (I.long * I.short) ≤ a * b
