-- The numbers of cases that L-regions reach, and the regions that a search may come to.
use Rattle.std.specs.Prelude.{ℕ, zero, suc, if◌then◌else◌, All, AllPairs, ◌+◌, ◌*◌, ◌≤◌, ◌<◌, ◌≡◌, true, List, [], ◌∷◌, length}
use Rattle.plan_geometry.specs.declared.instances.Inst.{Inst}
use Rattle.block_tree.specs.declared.regions.Region.{Region}
use Rattle.block_tree.specs.declared.regions.Cut.{Cut}
use Rattle.block_tree.specs.declared.regions.Cut.TheVariants.{K1, K2, K3, K4}
use Rattle.block_tree.specs.declared.parts.Part.{Part}
use Rattle.block_tree.specs.Regions.{is_rectangle, side_x, side_y, rectangle, area}
use Rattle.block_tree.specs.Parts.{IsCut, ell_parts}
use Rattle.block_tree.specs.Trees.{uniform}
use Rattle.block_tables.specs.Numbers.{RoundsTo, IsSum, Greatest}

-- ---- cuts and their parts

-- all numbers of a cut are sums of case sides
abbrev pub IsNormalCut : Inst → Cut → Type 0
IsNormalCut I (K1 x1 x2 y1) = IsSum I x1 × IsSum I x2 × IsSum I y1
IsNormalCut I (K2 c h) = IsSum I c × IsSum I h
IsNormalCut I (K3 d h) = IsSum I d × IsSum I h
IsNormalCut I (K4 c e) = IsSum I c × IsSum I e

-- p has each of the four numbers of r, rounded down
pub record IsRounded (I : Inst) (r p : Region) : Type 0 where
  pub big_x : RoundsTo I r.big_x p.big_x
  pub big_y : RoundsTo I r.big_y p.big_y
  pub small_x : RoundsTo I r.small_x p.small_x
  pub small_y : RoundsTo I r.small_y p.small_y

-- the region of the part at a place of a list
abbrev pub part_at : List Part → ℕ → Region
part_at [] k = rectangle 0 0
part_at (p ∷ ps) zero = p.region
part_at (p ∷ ps) (suc k) = part_at ps k

-- p and s are the two parts of a lawful cut at sums of case sides, each rounded down
pub record IsSplit (I : Inst) (r : Region) (cut : Cut) (p s : Region) : Type 0 where
  pub lawful : IsCut r cut
  pub normal : IsNormalCut I cut
  pub first : IsRounded I (part_at (ell_parts r cut) 0) p
  pub second : IsRounded I (part_at (ell_parts r cut) 1) s

-- ---- the numbers

-- n is a number of the region: that of the better grid where it is a rectangle, or the sum of numbers of the two
-- parts of a cut; each number has a finite derivation
pub data EllAll (I : Inst) : Region → ℕ → Type 0 where
  by_grid : {r : Region} {n : ℕ} → is_rectangle r ≡ true → n ≡ uniform I (side_x r) (side_y r) → EllAll I r n
  by_cut : {r p s : Region} {cut : Cut} {m n k : ℕ} → IsSplit I r cut p s → EllAll I p m → EllAll I s n → k ≡ m + n → EllAll I r k

-- n is the greatest number of the pallet, its sides rounded down
pub record IsGreatestEll (I : Inst) (n : ℕ) : Type 0 where
  pub a : ℕ
  pub b : ℕ
  pub down_x : RoundsTo I I.l_side a
  pub down_y : RoundsTo I I.w_side b
  pub best : Greatest (EllAll I (rectangle a b)) n

-- n is at least the number of the better grid of the pallet, its sides rounded down
abbrev pub IsAtLeastUniform : Inst → ℕ → Type 0
IsAtLeastUniform I n = (a b : ℕ) → RoundsTo I I.l_side a → RoundsTo I I.w_side b → uniform I a b ≤ n

-- ---- the regions that a search may come to

-- a rectangle is written by its sides
abbrev pub written : Region → Region
written r = if is_rectangle r then rectangle (side_x r) (side_y r) else r

-- the least set of regions that has the pallet, its sides rounded down, and with each region every part of a cut
-- of it that has a cell and fewer cells than the region
pub data Reach (I : Inst) : Region → Type 0 where
  root : {a b : ℕ} → RoundsTo I I.l_side a → RoundsTo I I.w_side b → Reach I (rectangle a b)
  first_part : {r p s t : Region} {cut : Cut} → Reach I r → IsSplit I r cut p s → 0 < area p → area p < area r → t ≡ written p → Reach I t
  second_part : {r p s t : Region} {cut : Cut} → Reach I r → IsSplit I r cut p s → 0 < area s → area s < area r → t ≡ written s → Reach I t

-- the set has more than n members: n + 1 different ones are listed
pub record HasMore (I : Inst) (n : ℕ) : Type 0 where
  pub members : List Region
  pub count : length members ≡ n + 1
  pub each : All (Reach I) members
  pub different : AllPairs (λ (r t : Region). r ≡ t → ⊥) members

-- ---- the sizes of an instance

-- the sides have few enough normal places for a search
pub record IsSearchSize (xs ys : List ℕ) : Type 0 where
  pub product : length xs * length ys ≤ 4000
  pub x_few : length xs ≤ 200
  pub y_few : length ys ≤ 200

-- there are no more choices of four normal places than n
abbrev pub AreFewChoices : List ℕ → List ℕ → ℕ → Type 0
AreFewChoices xs ys n = length xs * length ys * (length xs * length ys) ≤ n

-- so few that the search always ends
abbrev pub IsEllSize : List ℕ → List ℕ → Type 0
IsEllSize xs ys = length xs * length ys ≤ 400
