-- How the memo finds a region, and the number of a region that needs no cut.
use Rattle.std.specs.Prelude.{ℕ, Bool, if◌then◌else◌, ◌==◌, ◌&&◌}
use Rattle.plan_geometry.specs.declared.instances.Inst.{Inst}
use Rattle.block_tree.specs.declared.regions.Region.{Region}
use Rattle.block_tree.specs.Regions.{is_rectangle, side_x, side_y, region}
use Rattle.block_tree.specs.Trees.{uniform}
use Rattle.l_patterns.specs.declared.knowledge.Key.{Key}

abbrev pub region_of : Key → Region
region_of k = region k.big_x k.big_y k.small_x k.small_y

abbrev pub key_of : Region → Key
key_of r = record { big_x = r.big_x; big_y = r.big_y; small_x = r.small_x; small_y = r.small_y }

-- whether all four numbers are the same
abbrev pub same_key : Key → Key → Bool
same_key k x = (k.big_x == x.big_x) && ((k.big_y == x.big_y) && ((k.small_x == x.small_x) && (k.small_y == x.small_y)))

-- the number that needs no cut: that of the better grid, or none
abbrev pub base : Inst → Region → ℕ
base I r = if is_rectangle r then uniform I (side_x r) (side_y r) else 0
