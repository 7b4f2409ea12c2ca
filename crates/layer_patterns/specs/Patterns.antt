-- What a layer's count is measured by: the numbers of cases that patterns of blocks reach on the pallet.
use Rattle.std.specs.Prelude.{ℕ, ◌≤◌, List}
use Rattle.plan_geometry.specs.declared.spots.Way.TheVariants.{Lying, Standing}
use Rattle.plan_geometry.specs.declared.instances.Inst.{Inst}
use Rattle.plan_geometry.specs.Grid.{grid_count}
use Rattle.partitions.specs.Partitions.{IsNormal}
use Rattle.raster_points.specs.Places.{Lists}
use Rattle.block_tree.specs.Regions.{rectangle}
use Rattle.block_tables.specs.Numbers.{RoundsTo}
use Rattle.five_block.specs.FirstLevel.{IsFirstNumber}
use Rattle.five_block.specs.Five.{IsFiveSize, FiveAll}
use Rattle.g4_patterns.specs.Four.{IsFourSize, FourAll}
use Rattle.l_patterns.specs.Ells.{IsEllSize, EllAll}

-- the normal places of the pallet's two sides
pub record AreNormalPlaces (I : Inst) (xs ys : List ℕ) : Type 0 where
  pub on_x : Lists (IsNormal I.l_side I.long I.short) xs
  pub on_y : Lists (IsNormal I.w_side I.long I.short) ys

-- the sides have few enough normal places for five blocks
pub record IsFiveSized (I : Inst) : Type 0 where
  pub xs : List ℕ
  pub ys : List ℕ
  pub places : AreNormalPlaces I xs ys
  pub few : IsFiveSize xs ys

-- the sides have few enough normal places for four blocks
pub record IsFourSized (I : Inst) : Type 0 where
  pub xs : List ℕ
  pub ys : List ℕ
  pub places : AreNormalPlaces I xs ys
  pub few : IsFourSize xs ys

-- the sides have few enough normal places for L-regions
pub record IsEllSized (I : Inst) : Type 0 where
  pub xs : List ℕ
  pub ys : List ℕ
  pub places : AreNormalPlaces I xs ys
  pub few : IsEllSize xs ys

-- the count is at least each number of the first level
abbrev pub ReachesFirst : Inst → ℕ → Type 0
ReachesFirst I count = (n : ℕ) → IsFirstNumber I n → n ≤ count

-- the count is at least each number of the pallet's block by the pattern, each side rounded down to a normal place
abbrev pub Reaches : (Inst → ℕ → ℕ → ℕ → Type 0) → Inst → ℕ → Type 0
Reaches Pattern I count = (a b n : ℕ) → RoundsTo I I.l_side a → RoundsTo I I.w_side b → Pattern I a b n → n ≤ count

abbrev pub ReachesFour : Inst → ℕ → Type 0
ReachesFour I count = IsFourSized I → Reaches FourAll I count

abbrev pub ReachesFive : Inst → ℕ → Type 0
ReachesFive I count = IsFiveSized I → Reaches FiveAll I count

-- the numbers of the rectangle of these sides by L-regions
abbrev pub EllBlock : Inst → ℕ → ℕ → ℕ → Type 0
EllBlock I a b = EllAll I (rectangle a b)

abbrev pub ReachesEll : Inst → ℕ → Type 0
ReachesEll I count = IsEllSized I → Reaches EllBlock I count

-- The count is at least each number of these patterns of blocks: the two grids; the first level of five blocks; four
-- blocks, and five blocks, where the sides have few enough normal places for them.
pub record HoldsBlocks (I : Inst) (count : ℕ) : Type 0 where
  pub lying : grid_count I Lying ≤ count
  pub standing : grid_count I Standing ≤ count
  pub first_level : ReachesFirst I count
  pub four_blocks : ReachesFour I count
  pub five_blocks : ReachesFive I count

-- the count is at least each number of the patterns of blocks and, where the sides have few enough normal places for
-- them, of L-regions
pub record HoldsPatterns (I : Inst) (count : ℕ) : Type 0 where
  pub blocks : HoldsBlocks I count
  pub ell_regions : ReachesEll I count
