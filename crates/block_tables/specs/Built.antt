-- What is kept of each block, and the trees that are built from it.
use Rattle.std.specs.Prelude.{ℕ, ◌+◌, ◌-◌, ◌*◌, ◌≤◌, ◌<◌, ◌≡◌, List, length, slice_index, slice_index_or, slice_set, nat_lt, if◌then◌else◌, Option, None, MatchOption}
use Rattle.plan_geometry.specs.declared.instances.Inst.{Inst}
use Rattle.block_tree.specs.declared.nodes.Node.{Node}
use Rattle.block_tree.specs.Regions.{rectangle, Within}
use Rattle.plan_geometry.specs.declared.spots.Way.{Way}
use Rattle.plan_geometry.specs.declared.spots.Way.TheVariants.{Lying, Standing}
use Rattle.block_tree.specs.Trees.{grid_cases, uniform, held_count, IsLawful}
use Rattle.block_tables.specs.declared.patterns.Pattern.{Pattern}
use Rattle.block_tables.specs.declared.tables.Table.{Table}
use Rattle.block_tables.specs.declared.tables.Best.{Best}
use Rattle.block_tables.specs.declared.tables.Split.{Split}
use Rattle.block_tables.specs.declared.filling.Filling.{Filling}
use Rattle.block_tables.specs.declared.building.Done.{Done}
use Rattle.block_tables.specs.Numbers.{IsNumber, Greatest}
use Rattle.block_tables.specs.Tables.{look, parts_sum, IsFilled}

-- lawful cuts, none of whose parts is the block itself
pub record IsProper (p : Pattern) (t : Table) (a b : ℕ) (s : Split) (n : ℕ) : Type 0 where
  pub x_order : s.x1 ≤ s.x2
  pub x_in : s.x2 ≤ a
  pub y_order : s.y1 ≤ s.y2
  pub y_in : s.y2 ≤ b
  pub part1 : s.x2 + s.y1 < a + b
  pub part2 : (a - s.x2) + s.y2 < a + b
  pub part3 : s.x1 + (b - s.y1) < a + b
  pub part4 : (a - s.x1) + (b - s.y2) < a + b
  pub part5 : (s.x2 - s.x1) + (s.y2 - s.y1) < a + b
  pub sum : n ≡ parts_sum p (look t) a b s.x1 s.x2 s.y1 s.y2

abbrev pub IsKept : Inst → Pattern → Table → ℕ → ℕ → ℕ → Option Split → Type 0
IsKept I p t a b n o = MatchOption o (n ≡ uniform I a b) (λ s. IsProper p t a b s n)

-- the greatest number of a block, and what reaches it in the table so far
pub record IsSolved (I : Inst) (p : Pattern) (t : Table) (a b : ℕ) (m : Best) : Type 0 where
  pub best : Greatest (IsNumber I p a b) m.value
  pub kept : IsKept I p t a b m.value m.split
  pub small : m.value ≤ 16000000

-- one entry and its cuts were written, and nothing else
pub record Wrote (t t' : Filling) (k : ℕ) (m : Best) : Type 0 where
  pub x_places : t'.table.x_places.items ≡ t.table.x_places.items
  pub y_places : t'.table.y_places.items ≡ t.table.y_places.items
  pub x_count : t'.table.x_count ≡ t.table.x_count
  pub y_count : t'.table.y_count ≡ t.table.y_count
  pub values : t'.table.values.items ≡ slice_set t.table.values.items k m.value
  pub splits : t'.splits.items ≡ slice_set t.splits.items k m.split

-- a table that is filled up to a block, with the cuts of each block before it
pub record IsFilling (I : Inst) (p : Pattern) (xs ys : List ℕ) (f : Filling) (upto : ℕ) : Type 0 where
  pub filled : IsFilled I p xs ys f.table upto
  pub kept : (j k : ℕ) → j < length xs → k < length ys → j * f.table.y_count + k < upto
      → IsKept I p f.table (slice_index xs j) (slice_index ys k) (slice_index f.table.values.items (j * f.table.y_count + k)) (slice_index_or f.splits.items (j * f.table.y_count + k) None)
  pub whole : length f.splits.items ≡ f.table.x_count * f.table.y_count
  pub long_x : length f.table.x_places.items ≡ I.l_side + 1
  pub long_y : length f.table.y_places.items ≡ I.w_side + 1
  pub up_x : (k : ℕ) → k < length xs → slice_index xs k ≤ I.l_side
  pub up_y : (k : ℕ) → k < length ys → slice_index ys k ≤ I.w_side

-- a table that is filled to its end, with the cuts of each block
pub record AreDone (I : Inst) (p : Pattern) (xs ys : List ℕ) (t : Table) (splits : List (Option Split)) : Type 0 where
  pub filled : IsFilled I p xs ys t (t.x_count * t.y_count)
  pub kept : (j k : ℕ) → j < length xs → k < length ys
      → IsKept I p t (slice_index xs j) (slice_index ys k) (slice_index t.values.items (j * t.y_count + k)) (slice_index_or splits (j * t.y_count + k) None)
  pub whole : length splits ≡ t.x_count * t.y_count
  pub small_x : (k : ℕ) → k < length xs → slice_index xs k ≤ 4000
  pub small_y : (k : ℕ) → k < length ys → slice_index ys k ≤ 4000
  pub reach_x : (k : ℕ) → k < length xs → slice_index xs k < length t.x_places.items
  pub reach_y : (k : ℕ) → k < length ys → slice_index ys k < length t.y_places.items

abbrev pub IsDone : Done → Type 0
IsDone d = AreDone d.inst d.pattern d.xs.now d.ys.now d.table.now d.splits.now

-- the way of the better grid: Lying where it has at least as many cases as Standing
abbrev pub better_way : Inst → ℕ → ℕ → Way
better_way I a b = if nat_lt (grid_cases I Lying a b) (grid_cases I Standing a b) then Standing else Lying

-- a node of that rectangle, lawful, with n cases
pub record Makes (I : Inst) (a b n : ℕ) (d : Node) : Type 0 where
  pub region : d.region ≡ rectangle a b
  pub lawful : IsLawful I d.region d.block
  pub count : held_count I d.region d.block ≡ n

-- a node that may stand as a c by d part, lawful, with n cases
pub record Serves (I : Inst) (c d n : ℕ) (node : Node) : Type 0 where
  pub region : Within node.region (rectangle c d)
  pub lawful : IsLawful I node.region node.block
  pub count : held_count I node.region node.block ≡ n
