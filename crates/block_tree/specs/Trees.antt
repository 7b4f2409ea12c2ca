-- Block trees: what they hold, and which are lawful.
use Rattle.std.specs.Prelude.{ℕ, true, false, ◌+◌, ◌*◌, ◌/◌, ◌≤◌, ◌≡◌, List, [], ◌∷◌, max}
use Rattle.plan_geometry.specs.declared.spots.Way.{Way}
use Rattle.plan_geometry.specs.declared.spots.Way.TheVariants.{Lying, Standing}
use Rattle.plan_geometry.specs.declared.instances.Inst.{Inst}
use Rattle.plan_geometry.specs.Layout.{x_extent, y_extent, IsLawfulWay}
use Rattle.block_tree.specs.declared.regions.Region.{Region}
use Rattle.block_tree.specs.declared.nodes.Node.{Node}
use Rattle.block_tree.specs.declared.nodes.Block.{Block, Empty, Grid, Five', Ell', Row_of-Node, end_of-Node, more_of-Node}
use Rattle.block_tree.specs.declared.parts.Part.{Part}
use Rattle.block_tree.specs.Regions.{IsOrdered, is_rectangle, side_x, side_y, Within}
use Rattle.block_tree.specs.Parts.{AreFiveCuts, five_parts, IsCut, ell_parts}

-- the cases of one way that an a by b block holds
abbrev pub grid_cases : Inst → Way → ℕ → ℕ → ℕ
grid_cases I way a b = (a / x_extent I way) * (b / y_extent I way)

-- the greater of the two grids
abbrev pub uniform : Inst → ℕ → ℕ → ℕ
uniform I a b = max (grid_cases I Lying a b) (grid_cases I Standing a b)

-- ---- the sum of the grids' cases

abbrev mutual
  pub held_count : Inst → Region → Block → ℕ
  held_count I r Empty = 0
  held_count I r (Grid way) = grid_cases I way (side_x r) (side_y r)
  held_count I r (Five' x1 x2 y1 y2 shape all) = held_count_row I all
  held_count I r (Ell' cut shape all) = held_count_row I all

  pub held_count_row : Inst → {m : _} → Row_of-Node m → ℕ
  held_count_row I end_of-Node = 0
  held_count_row I (more_of-Node r b rest) = held_count I r b + held_count_row I rest

-- ---- the nodes that are lawful: each part's four numbers are at most those of the part that the cut gives

abbrev mutual
  pub IsLawful : Inst → Region → Block → Type 0
  IsLawful I r Empty = IsOrdered r
  IsLawful I r (Grid way) = IsOrdered r × (is_rectangle r ≡ true) × IsLawfulWay I way
  IsLawful I r (Five' x1 x2 y1 y2 shape all) =
      IsOrdered r × AreFiveCuts r x1 x2 y1 y2 × AreLawfulRow I (five_parts (side_x r) (side_y r) x1 x2 y1 y2) all
  IsLawful I r (Ell' cut shape all) = IsOrdered r × IsCut r cut × AreLawfulRow I (ell_parts r cut) all

  pub AreLawfulRow : Inst → List Part → {m : _} → Row_of-Node m → Type 0
  AreLawfulRow I [] end_of-Node = Unit {0}
  AreLawfulRow I (p ∷ ps) (more_of-Node r b rest) = Within r p.region × IsLawful I r b × AreLawfulRow I ps rest
  AreLawfulRow I (p ∷ ps) end_of-Node = ⊥
  AreLawfulRow I [] (more_of-Node r b rest) = ⊥

-- what the type of a block tree keeps: a lawful root that is a rectangle no larger than the pallet
pub record IsTree (I : Inst) (root : Node) : Type 0 where
  pub lawful : IsLawful I root.region root.block
  pub rectangle : is_rectangle root.region ≡ true
  pub in_x : side_x root.region ≤ I.l_side
  pub in_y : side_y root.region ≤ I.w_side

-- ---- the same over lists of nodes

abbrev pub held_count_all : Inst → List Node → ℕ
held_count_all I [] = 0
held_count_all I (n ∷ ns) = held_count I n.region n.block + held_count_all I ns

abbrev pub AreLawful : Inst → List Part → List Node → Type 0
AreLawful I [] [] = Unit {0}
AreLawful I (p ∷ ps) (n ∷ ns) = Within n.region p.region × IsLawful I n.region n.block × AreLawful I ps ns
AreLawful I (p ∷ ps) [] = ⊥
AreLawful I [] (n ∷ ns) = ⊥

-- ---- what the code asks of a node

-- a rectangle is small by its sides, any other region by its great numbers
abbrev pub IsSmall : Region → Type 0
IsSmall r = (side_x r ≤ 4000) × (side_y r ≤ 4000) × (is_rectangle r ≡ false → (r.big_x ≤ 4000) × (r.big_y ≤ 4000))

abbrev pub IsSmallLawful : Inst → Node → Type 0
IsSmallLawful I n = IsLawful I n.region n.block × IsSmall n.region

-- how many nodes a tree has, which falls on the way down
abbrev mutual
  pub node_count : Block → ℕ
  node_count Empty = 1
  node_count (Grid way) = 1
  node_count (Five' x1 x2 y1 y2 shape all) = 1 + node_count_row all
  node_count (Ell' cut shape all) = 1 + node_count_row all

  pub node_count_row : {m : _} → Row_of-Node m → ℕ
  node_count_row end_of-Node = 0
  node_count_row (more_of-Node r b rest) = 1 + node_count b + node_count_row rest

abbrev pub node_count_all : List Node → ℕ
node_count_all [] = 0
node_count_all (n ∷ ns) = 1 + node_count n.block + node_count_all ns
