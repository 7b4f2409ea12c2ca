-- A layer in the oblique view, in tenths of a unit of length: x to the right, z up, and y at half its length, 4 to the right and 3 up. Up is negative. The viewer sees fronts, right sides and tops.
use Rattle.std.specs.Prelude.{ℕ, ◌+◌, ◌*◌, List, [], ◌++◌, codes, decimal, reverse, if◌then◌else◌, nat_lt}
use Rattle.std.specs.List.{flat_map}
use Rattle.plan_geometry.specs.declared.spots.Spot.{Spot}
use Rattle.plan_entries.specs.declared.listed.Listed.{Listed}
use Rattle.page_pieces.specs.Pieces.{numbered}
use Rattle.page_figures.specs.declared.sides.Sides.{Sides}
use Rattle.page_figures.specs.Sides.{across, along, way_text}

-- the front of a case at x, y, so wide and so high
abbrev pub front_text : List ℕ → ℕ → ℕ → ℕ → ℕ → List ℕ
front_text way x y w h =
    codes "<path class=\"" ++ (way ++ (codes " d=\"M" ++ (decimal (10 * x + 4 * y) ++ (codes " -" ++ (decimal (3 * y) ++ (codes "h" ++ (decimal (10 * w) ++ (codes "v-" ++ (decimal (10 * h) ++ (codes "h-" ++ (decimal (10 * w) ++ codes "z\"/>\n")))))))))))

-- the front of a case of the layer
unfoldable pub front_of_case : Sides → Spot → List ℕ
front_of_case s spot = front_text (way_text spot.way) spot.x spot.y (across s spot.way) s.height

-- the right side of a case at x, y, so wide, so deep and so high
abbrev pub side_text : List ℕ → ℕ → ℕ → ℕ → ℕ → ℕ → List ℕ
side_text way x y w d h =
    codes "<path class=\"" ++ (way ++ (codes " d=\"M" ++ (decimal (10 * x + 10 * w + 4 * y) ++ (codes " -" ++ (decimal (3 * y) ++ (codes "l" ++ (decimal (4 * d) ++ (codes " -" ++ (decimal (3 * d) ++ (codes "v-" ++ (decimal (10 * h) ++ (codes "l-" ++ (decimal (4 * d) ++ (codes " " ++ (decimal (3 * d) ++ codes "z\"/>\n")))))))))))))))

-- the right side of a case, where no other has room between it and the pallet's edge; the others are left out
unfoldable pub outer_side : Sides → Spot → List ℕ
outer_side s spot =
    if nat_lt s.pallet_x (spot.x + across s spot.way + s.short) then side_text (way_text spot.way) spot.x spot.y (across s spot.way) (along s spot.way) s.height else []

-- the faces of a case that the viewer sees, without its top
unfoldable pub faces_of_case : Sides → Spot → List ℕ
faces_of_case s spot = outer_side s spot ++ front_of_case s spot

-- the faces of the cases from the back to the front, so that what is in front hides what is behind: a layer lists its cases by y, then x
unfoldable pub faces_text : Sides → List Spot → List ℕ
faces_text s spots = flat_map (faces_of_case s) (reverse spots)

-- the top of a case, at x, y, of these extents, and so high
abbrev pub lid_text : List ℕ → ℕ → ℕ → ℕ → ℕ → ℕ → List ℕ
lid_text way x y w d z =
    codes "<path class=\"" ++ (way ++ (codes " d=\"M" ++ (decimal (10 * x + 4 * y) ++ (codes " -" ++ (decimal (3 * y + 10 * z) ++ (codes "h" ++ (decimal (10 * w) ++ (codes "l" ++ (decimal (4 * d) ++ (codes " -" ++ (decimal (3 * d) ++ (codes "h-" ++ (decimal (10 * w) ++ codes "z\"/>\n")))))))))))))

-- the top of a case of the layer
unfoldable pub top_of_case : Sides → Spot → List ℕ
top_of_case s spot = lid_text (way_text spot.way) spot.x spot.y (across s spot.way) (along s spot.way) s.height

-- the tops of the cases
unfoldable pub tops_text : Sides → List Spot → List ℕ
tops_text s spots = flat_map (top_of_case s) spots

-- the outline of the room that a layer takes, as the beginning of a symbol whose id names the sheet and the form
unfoldable pub slab_head : Sides → ℕ → ℕ → List ℕ
slab_head s sheet number =
    codes "<symbol overflow=\"visible\" id=\"form-" ++ (decimal sheet ++ (codes "-" ++ (decimal number ++ (codes "\"><path class=\"slab\" d=\"M0 0h" ++ (decimal (10 * s.pallet_x) ++ (codes "l" ++ (decimal (4 * s.pallet_y) ++ (codes " -" ++ (decimal (3 * s.pallet_y) ++ (codes "v-" ++ (decimal (10 * s.height) ++ (codes "h-" ++ (decimal (10 * s.pallet_x) ++ (codes "l-" ++ (decimal (4 * s.pallet_y) ++ (codes " " ++ (decimal (3 * s.pallet_y) ++ codes "z\"/>\n")))))))))))))))))

-- a form as a symbol: its outline, the faces that the viewer sees, and the tops over them
unfoldable pub slab_text : Sides → ℕ → ℕ → Listed → List ℕ
slab_text s sheet number l = slab_head s sheet number ++ (faces_text s l.spots ++ (tops_text s l.spots ++ codes "</symbol>\n"))

-- the forms, numbered from 1
unfoldable pub slabs_text : Sides → ℕ → List Listed → List ℕ
slabs_text s sheet layers = numbered (slab_text s sheet) 1 layers
