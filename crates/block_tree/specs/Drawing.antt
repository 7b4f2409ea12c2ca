-- The cases that a tree stands for, in the coordinates of the region that it fills.
use Rattle.std.specs.Prelude.{ℕ, zero, suc, Bool, true, false, ◌⊎◌, ◌+◌, ◌-◌, ◌*◌, ◌/◌, ◌^◌, ◌≤◌, ◌<◌, List, [], ◌∷◌, ◌++◌, map}
use Rattle.plan_geometry.specs.declared.spots.Way.{Way}
use Rattle.plan_geometry.specs.declared.spots.Spot.{Spot}
use Rattle.plan_geometry.specs.declared.instances.Inst.{Inst}
use Rattle.plan_geometry.specs.Layout.{x_extent, y_extent, x_end, y_end}
use Rattle.block_tree.specs.declared.regions.Region.{Region}
use Rattle.block_tree.specs.declared.nodes.Node.{Node}
use Rattle.block_tree.specs.declared.nodes.Block.{Block, Empty, Grid, Five', Ell', Row_of-Node, end_of-Node, more_of-Node}
use Rattle.block_tree.specs.declared.parts.Part.{Part}
use Rattle.block_tree.specs.Regions.{side_x, side_y}
use Rattle.block_tree.specs.Parts.{five_parts, ell_parts}

abbrev pub spot : ℕ → ℕ → Way → Spot
spot x y way = record { x = x; y = y; way = way }

-- `n` cases of a row
abbrev pub row_spots : Inst → Way → ℕ → ℕ → List Spot
row_spots I way y zero = []
row_spots I way y (suc n) = row_spots I way y n ++ spot (n * x_extent I way) y way ∷ []

-- `m` rows of `n` cases each
abbrev pub grid_spots : Inst → Way → ℕ → ℕ → List Spot
grid_spots I way n zero = []
grid_spots I way n (suc m) = grid_spots I way n m ++ row_spots I way (m * y_extent I way) n

-- along one side, where what lies from `low` to `high` of a part begins in the whole
abbrev pub placed_at : Bool → ℕ → ℕ → ℕ → ℕ
placed_at false at low high = at + low
placed_at true at low high = at - high

-- a case of a part, in the whole
abbrev pub placed : Inst → Part → Spot → Spot
placed I p s = spot (placed_at p.flip_x p.at_x s.x (x_end I s)) (placed_at p.flip_y p.at_y s.y (y_end I s)) s.way

-- each grid stands at the corner of its part, and each part where the cut has it
abbrev mutual
  pub drawn : Inst → Region → Block → List Spot
  drawn I r Empty = []
  drawn I r (Grid way) = grid_spots I way (side_x r / x_extent I way) (side_y r / y_extent I way)
  drawn I r (Five' x1 x2 y1 y2 shape all) = drawn_row I (five_parts (side_x r) (side_y r) x1 x2 y1 y2) all
  drawn I r (Ell' cut shape all) = drawn_row I (ell_parts r cut) all

  pub drawn_row : Inst → List Part → {m : _} → Row_of-Node m → List Spot
  drawn_row I (p ∷ ps) (more_of-Node r b rest) = map (placed I p) (drawn I r b) ++ drawn_row I ps rest
  drawn_row I [] (more_of-Node r b rest) = []
  drawn_row I (p ∷ ps) end_of-Node = []
  drawn_row I [] end_of-Node = []

-- the same over a list of nodes
abbrev pub drawn_all : Inst → List Part → List Node → List Spot
drawn_all I (p ∷ ps) (n ∷ ns) = map (placed I p) (drawn I n.region n.block) ++ drawn_all I ps ns
drawn_all I [] (n ∷ ns) = []
drawn_all I (p ∷ ps) [] = []
drawn_all I [] [] = []

-- ---- what the code asks of a case and of a part

-- the case lies in the region
abbrev pub InRegion : Inst → Region → Spot → Type 0
InRegion I r s = (x_end I s ≤ r.big_x) × (y_end I s ≤ r.big_y) × ((x_end I s ≤ r.small_x) ⊎ (y_end I s ≤ r.small_y))

abbrev pub PlacedFits : Bool → ℕ → ℕ → ℕ → Type 0
PlacedFits false at low high = at + low < 2 ^ 32
PlacedFits true at low high = high ≤ at

-- a side that is flipped has room
abbrev pub HasRoom : Bool → ℕ → ℕ → Type 0
HasRoom false at n = Unit {0}
HasRoom true at n = n ≤ at

abbrev pub IsPart : Part → Type 0
IsPart p = HasRoom p.flip_x p.at_x p.region.big_x × HasRoom p.flip_y p.at_y p.region.big_y × (p.at_x ≤ 4000) × (p.at_y ≤ 4000) × (p.region.big_x ≤ 4000) × (p.region.big_y ≤ 4000)
