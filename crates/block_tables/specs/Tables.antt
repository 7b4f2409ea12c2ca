-- The table of the greatest numbers, and the cuts that reach them.
use Rattle.std.specs.Prelude.{ℕ, ◌+◌, ◌-◌, ◌*◌, ◌≤◌, ◌<◌, ◌≡◌, List, length, slice_index, MatchOption}
use Rattle.plan_geometry.specs.declared.instances.Inst.{Inst}
use Rattle.raster_points.specs.Places.{Lists}
use Rattle.block_tree.specs.Trees.{uniform}
use Rattle.block_tables.specs.declared.patterns.Pattern.{Pattern}
use Rattle.block_tables.specs.declared.patterns.Pattern.TheVariants.{Five, Four}
use Rattle.block_tables.specs.declared.tables.Table.{Table}
use Rattle.block_tables.specs.declared.tables.Best.{Best}
use Rattle.block_tables.specs.declared.tables.Job.{Job}
use Rattle.block_tables.specs.declared.tables.Split.{Split}
use Rattle.block_tables.specs.Numbers.{RoundsTo, IsSum, IsRasterOf, IsNumber, Greatest}

-- what the centre counts for
abbrev pub centre : Pattern → (ℕ → ℕ → ℕ) → ℕ → ℕ → ℕ
centre Five f c d = f c d
centre Four f c d = 0

-- the sum of f over the parts of an a by b block
abbrev pub parts_sum : Pattern → (ℕ → ℕ → ℕ) → ℕ → ℕ → ℕ → ℕ → ℕ → ℕ → ℕ
parts_sum p f a b x1 x2 y1 y2 =
    f x2 y1 + f (a - x2) y2 + f x1 (b - y1) + f (a - x1) (b - y2) + centre p f (x2 - x1) (y2 - y1)

-- ---- lists of places

abbrev pub HasPlace : List ℕ → ℕ → Type 0
HasPlace xs x = (k : ℕ) × (k < length xs) × (slice_index xs k ≡ x)

-- every member is at most s
abbrev pub AllUpTo : List ℕ → ℕ → Type 0
AllUpTo xs s = (k : ℕ) → k < length xs → slice_index xs k ≤ s

abbrev pub IsRising : List ℕ → Type 0
IsRising xs = (j k : ℕ) → j < k → k < length xs → slice_index xs j < slice_index xs k

-- xs are normal places in rising order; of each length, ps has the place in xs of the greatest of them up to it
pub record ArePlaced (I : Inst) (xs ps : List ℕ) : Type 0 where
  pub sums : (k : ℕ) → k < length xs → IsSum I (slice_index xs k)
  pub rising : IsRising xs
  pub places : (s : ℕ) → s < length ps → slice_index ps s < length xs
  pub downs : (s : ℕ) → s < length ps → RoundsTo I s (slice_index xs (slice_index ps s))

-- the raster places of s, in rising order
pub record AreRasters (I : Inst) (s : ℕ) (xs : List ℕ) : Type 0 where
  pub all : (p : ℕ) → IsRasterOf I s p → HasPlace xs p
  pub only : (p : ℕ) → HasPlace xs p → IsRasterOf I s p
  pub rising : IsRising xs

-- ---- the table

-- the number that stands for the c by d part, each side rounded down
abbrev pub look : Table → ℕ → ℕ → ℕ
look t c d = slice_index t.values.items (slice_index t.x_places.items c * t.y_count + slice_index t.y_places.items d)

pub record IsTable (t : Table) : Type 0 where
  pub rows : (k : ℕ) → k < length t.x_places.items → slice_index t.x_places.items k < t.x_count
  pub columns : (k : ℕ) → k < length t.y_places.items → slice_index t.y_places.items k < t.y_count
  pub full : length t.values.items ≡ t.x_count * t.y_count
  pub small : (k : ℕ) → k < length t.values.items → slice_index t.values.items k ≤ 16000000
  pub few : t.x_count * t.y_count ≤ 40000

-- the table has the greatest number of each block before a place, row by row, and 0 from there on
pub record IsFilled (I : Inst) (p : Pattern) (xs ys : List ℕ) (t : Table) (upto : ℕ) : Type 0 where
  pub table : IsTable t
  pub wide : length xs ≡ t.x_count
  pub tall : length ys ≡ t.y_count
  pub on_x : ArePlaced I xs t.x_places.items
  pub on_y : ArePlaced I ys t.y_places.items
  pub filled : (r c : ℕ) → c < t.y_count → r * t.y_count + c < upto → Greatest (IsNumber I p (slice_index xs r) (slice_index ys c)) (slice_index t.values.items (r * t.y_count + c))
  pub rest : (k : ℕ) → upto ≤ k → slice_index t.values.items k ≡ 0

-- The block at row r and column c comes next, and rx and ry are the raster places of its sides.
pub record IsDue (I : Inst) (p : Pattern) (xs ys : List ℕ) (t : Table) (r c : ℕ) (rx ry : List ℕ) : Type 0 where
  pub filled : IsFilled I p xs ys t (r * t.y_count + c)
  pub r_in : r < length xs
  pub c_in : c < length ys
  pub a_in : slice_index xs r < length t.x_places.items
  pub b_in : slice_index ys c < length t.y_places.items
  pub a_small : slice_index xs r ≤ 4000
  pub b_small : slice_index ys c ≤ 4000
  pub x_cuts : Lists (IsRasterOf I (slice_index xs r)) rx
  pub y_cuts : Lists (IsRasterOf I (slice_index ys c)) ry

-- ---- the scan of one block

-- what the two parts at the first y cut hold
abbrev pub first_term : Job → ℕ → ℕ → ℕ → ℕ
first_term q x1 x2 y1 = look q.table.now x2 y1 + look q.table.now x1 (q.b - y1)

-- what the two parts at the second y cut hold
abbrev pub second_term : Job → ℕ → ℕ → ℕ → ℕ
second_term q x1 x2 y2 = look q.table.now (q.a - x2) y2 + look q.table.now (q.a - x1) (q.b - y2)

-- the sum over the parts, in the table
abbrev pub sum_at : Pattern → Job → ℕ → ℕ → ℕ → ℕ → ℕ
sum_at p q x1 x2 y1 y2 = parts_sum p (look q.table.now) q.a q.b x1 x2 y1 y2

-- the lists of a block's cuts are in order, and its sides within the table
pub record IsJob (q : Job) : Type 0 where
  pub table : IsTable q.table.now
  pub a_in : q.a < length q.table.now.x_places.items
  pub b_in : q.b < length q.table.now.y_places.items
  pub xs_up : AllUpTo q.xs.now q.a
  pub ys_up : AllUpTo q.ys.now q.b
  pub xs_rise : IsRising q.xs.now
  pub ys_rise : IsRising q.ys.now

-- cuts out of the two lists, with their sum
pub record IsFound (p : Pattern) (q : Job) (s : Split) (n : ℕ) : Type 0 where
  pub has_x1 : HasPlace q.xs.now s.x1
  pub has_x2 : HasPlace q.xs.now s.x2
  pub has_y1 : HasPlace q.ys.now s.y1
  pub has_y2 : HasPlace q.ys.now s.y2
  pub x_order : s.x1 ≤ s.x2
  pub y_order : s.y1 ≤ s.y2
  pub sum : n ≡ sum_at p q s.x1 s.x2 s.y1 s.y2
  pub some : 0 < n

-- the number of the better grid, or of some cuts
abbrev pub IsReached : Pattern → Job → Best → Type 0
IsReached p q m = MatchOption m.split (m.value ≡ uniform q.inst q.a q.b) (λ s. IsFound p q s m.value)

-- no cut out of the two lists has a greater sum
abbrev pub CoversAll : Pattern → Job → ℕ → Type 0
CoversAll p q n = (x1 x2 y1 y2 : ℕ) → HasPlace q.xs.now x1 → HasPlace q.xs.now x2 → HasPlace q.ys.now y1 → HasPlace q.ys.now y2
    → x1 ≤ x2 → y1 ≤ y2 → sum_at p q x1 x2 y1 y2 ≤ n
