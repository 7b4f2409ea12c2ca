-- The cuts of a region by number.
use Rattle.std.specs.Prelude.{ℕ, if◌then◌else◌, ◌+◌, ◌*◌, ◌/◌, ◌%◌, ◌≤◌, ◌<◌, ◌≡◌, true, false, length, slice_index}
use Rattle.plan_geometry.specs.declared.instances.Inst.{Inst}
use Rattle.block_tree.specs.declared.regions.Region.{Region}
use Rattle.block_tree.specs.declared.regions.Cut.{Cut}
use Rattle.block_tree.specs.declared.regions.Cut.TheVariants.{K1, K2, K3, K4}
use Rattle.block_tree.specs.Regions.{IsOrdered, is_rectangle, side_x, side_y}
use Rattle.block_tables.specs.Numbers.{IsSum}
use Rattle.block_tables.specs.Tables.{ArePlaced}
use Rattle.l_patterns.specs.declared.sides.Side.{Side}
use Rattle.l_patterns.specs.declared.sides.Sides.{Sides}

-- the normal places of a side in order, and for each length up to the side where the greatest of them up to there stands
pub record IsSide (I : Inst) (s : Side) (length_of_side : ℕ) : Type 0 where
  pub placed : ArePlaced I s.points.now s.places.now
  pub long : length s.places.now ≡ length_of_side + 1
  pub few : length s.points.now ≤ 200

pub record AreSidesOf (q : Sides) : Type 0 where
  pub on_x : IsSide q.inst q.x q.inst.l_side
  pub on_y : IsSide q.inst q.y q.inst.w_side

-- four sums of case sides in order
pub record IsRegion (I : Inst) (r : Region) : Type 0 where
  pub ordered : IsOrdered r
  pub big_x : IsSum I r.big_x
  pub big_y : IsSum I r.big_y
  pub small_x : IsSum I r.small_x
  pub small_y : IsSum I r.small_y

-- such a region that is no larger than the pallet
pub record Fits (q : Sides) (r : Region) : Type 0 where
  pub region : IsRegion q.inst r
  pub wide : r.big_x ≤ q.inst.l_side
  pub tall : r.big_y ≤ q.inst.w_side

-- ---- how many cuts there are

-- how many normal places there are up to a length
abbrev pub count_up_to : Side → ℕ → ℕ
count_up_to s n = slice_index s.places.now n + 1

abbrev pub point : Side → ℕ → ℕ
point s k = slice_index s.points.now k

abbrev pub count_k1 : Sides → Region → ℕ
count_k1 q r = count_up_to q.x (side_x r) * count_up_to q.x (side_x r) * count_up_to q.y (side_y r)

abbrev pub count_k2 : Sides → Region → ℕ
count_k2 q r = count_up_to q.x r.small_x * count_up_to q.y r.small_y

abbrev pub count_k3 : Sides → Region → ℕ
count_k3 q r = count_up_to q.x r.big_x * count_up_to q.y r.small_y

abbrev pub count_k4 : Sides → Region → ℕ
count_k4 q r = count_up_to q.x r.small_x * count_up_to q.y r.big_y

abbrev pub cut_count : Sides → Region → ℕ
cut_count q r = if is_rectangle r then count_k1 q r else count_k2 q r + count_k3 q r + count_k4 q r

-- ---- the cut of a number, which may be out of order

abbrev pub nth_k1 : Sides → Region → ℕ → Cut
nth_k1 q r k =
    K1 (point q.x ((k / count_up_to q.y (side_y r)) / count_up_to q.x (side_x r)))
    (point q.x ((k / count_up_to q.y (side_y r)) % count_up_to q.x (side_x r))) (point q.y (k % count_up_to q.y (side_y r)))

abbrev pub nth_k2 : Sides → Region → ℕ → Cut
nth_k2 q r k = K2 (point q.x (k / count_up_to q.y r.small_y)) (point q.y (k % count_up_to q.y r.small_y))

abbrev pub nth_k3 : Sides → Region → ℕ → Cut
nth_k3 q r k = K3 (point q.x (k / count_up_to q.y r.small_y)) (point q.y (k % count_up_to q.y r.small_y))

abbrev pub nth_k4 : Sides → Region → ℕ → Cut
nth_k4 q r k = K4 (point q.x (k / count_up_to q.y r.big_y)) (point q.y (k % count_up_to q.y r.big_y))

pub data IsNth (q : Sides) (r : Region) (k : ℕ) (cut : Cut) : Type 0 where
  by_k1 : is_rectangle r ≡ true → cut ≡ nth_k1 q r k → IsNth q r k cut
  by_k2 : is_rectangle r ≡ false → k < count_k2 q r → cut ≡ nth_k2 q r k → IsNth q r k cut
  by_k3 : (j : ℕ) → is_rectangle r ≡ false → k ≡ count_k2 q r + j → j < count_k3 q r → cut ≡ nth_k3 q r j → IsNth q r k cut
  by_k4 : (j : ℕ) → is_rectangle r ≡ false → k ≡ count_k2 q r + count_k3 q r + j → cut ≡ nth_k4 q r j → IsNth q r k cut
