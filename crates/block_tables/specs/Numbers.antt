-- The numbers of cases that block patterns reach. Each number has a finite derivation.
use Rattle.std.specs.Prelude.{◌≡◌, ℕ, ◌+◌, ◌-◌, ◌*◌, ◌≤◌}
use Rattle.plan_geometry.specs.declared.instances.Inst.{Inst}
use Rattle.partitions.specs.Partitions.{IsNormal}
use Rattle.raster_points.specs.Places.{IsDown, IsRaster}
use Rattle.block_tree.specs.Trees.{uniform}
use Rattle.block_tables.specs.declared.patterns.Pattern.{Pattern}
use Rattle.block_tables.specs.declared.patterns.Pattern.TheVariants.{Five, Four}

-- d is the side s, rounded down to a normal place
abbrev pub RoundsTo : Inst → ℕ → ℕ → Type 0
RoundsTo I s d = IsDown s I.long I.short d

-- p is a sum of case sides
abbrev pub IsSum : Inst → ℕ → Type 0
IsSum I p = IsNormal p I.long I.short p

abbrev pub IsRasterOf : Inst → ℕ → ℕ → Type 0
IsRasterOf I s p = IsRaster s I.long I.short p

-- cuts of an a by b block at raster places of its sides, in order
pub record AreCuts (I : Inst) (a b x1 x2 y1 y2 : ℕ) : Type 0 where
  pub x1_raster : IsRasterOf I a x1
  pub x2_raster : IsRasterOf I a x2
  pub y1_raster : IsRasterOf I b y1
  pub y2_raster : IsRasterOf I b y2
  pub x_order : x1 ≤ x2
  pub y_order : y1 ≤ y2

mutual
  -- n is a number of the a by b block: that of the better grid, or the sum of numbers of the parts of a cut
  pub data IsNumber (I : Inst) (pattern : Pattern) : ℕ → ℕ → ℕ → Type 0 where
    by_grid : {a b n : ℕ} → n ≡ uniform I a b → IsNumber I pattern a b n
    by_cuts : {a b x1 x2 y1 y2 n1 n2 n3 n4 n5 n : ℕ} → AreCuts I a b x1 x2 y1 y2
        → IsPartNumber I pattern x2 y1 n1 → IsPartNumber I pattern (a - x2) y2 n2 → IsPartNumber I pattern x1 (b - y1) n3
        → IsPartNumber I pattern (a - x1) (b - y2) n4 → IsCentreNumber I pattern (x2 - x1) (y2 - y1) n5
        → n ≡ n1 + n2 + n3 + n4 + n5 → IsNumber I pattern a b n

  -- n is a number of the c by d part, each side rounded down
  pub data IsPartNumber (I : Inst) (pattern : Pattern) : ℕ → ℕ → ℕ → Type 0 where
    rounded : {c d a b n : ℕ} → RoundsTo I c a → RoundsTo I d b → IsNumber I pattern a b n → IsPartNumber I pattern c d n

  -- the centre is a part like the others among five blocks, and counts as 0 among four
  pub data IsCentreNumber (I : Inst) (pattern : Pattern) : ℕ → ℕ → ℕ → Type 0 where
    counted : {c d n : ℕ} → pattern ≡ Five → IsPartNumber I pattern c d n → IsCentreNumber I pattern c d n
    uncounted : {c d n : ℕ} → pattern ≡ Four → n ≡ 0 → IsCentreNumber I pattern c d n

-- n is the greatest number of which P is true
pub record Greatest (P : ℕ → Type 0) (n : ℕ) : Type 0 where
  pub reached : P n
  pub greatest : (m : ℕ) → P m → m ≤ n

-- n is the greatest number of the pallet's block, each side rounded down
pub record IsGreatestOf (I : Inst) (pattern : Pattern) (n : ℕ) : Type 0 where
  pub a : ℕ
  pub b : ℕ
  pub down_x : RoundsTo I I.l_side a
  pub down_y : RoundsTo I I.w_side b
  pub best : Greatest (IsNumber I pattern a b) n

-- the law of cells: the cells of so many cases are at most those of the block
abbrev pub CellsLaw : Type 0
CellsLaw = (I : Inst) (pattern : Pattern) (a b n : ℕ) → IsNumber I pattern a b n → n * (I.long * I.short) ≤ a * b
