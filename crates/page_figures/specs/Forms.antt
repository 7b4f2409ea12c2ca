-- A layer's form from above, in half units of length, x to the right and y up.
use Rattle.std.specs.Prelude.{ℕ, ◌+◌, ◌-◌, ◌*◌, List, ◌++◌, codes, decimal}
use Rattle.plan_geometry.specs.declared.spots.Spot.{Spot}
use Rattle.plan_entries.specs.declared.listed.Listed.{Listed}
use Rattle.page_pieces.specs.Pieces.{numbered}
use Rattle.page_figures.specs.declared.sides.Sides.{Sides}
use Rattle.page_figures.specs.Sides.{across, along, way_text}

-- a rectangle at its place, and its number in the middle
abbrev pub box_text : ℕ → List ℕ → ℕ → ℕ → ℕ → ℕ → List ℕ
box_text number way x y w d =
    codes "<rect class=\"" ++ (way ++ (codes " x=\"" ++ (decimal (2 * x) ++ (codes "\" y=\"" ++ (decimal (2 * y) ++ (codes "\" width=\"" ++ (decimal (2 * w) ++ (codes "\" height=\"" ++ (decimal (2 * d) ++ (codes "\"/><text x=\"" ++ (decimal (2 * x + w) ++ (codes "\" y=\"" ++ (decimal (2 * y + d) ++ (codes "\">" ++ (decimal number ++ codes "</text>\n")))))))))))))))

-- how far the upper edge of a case is below the pallet's side of greatest y
unfoldable pub upper_edge : Sides → Spot → ℕ
upper_edge s spot = s.pallet_y - (spot.y + along s spot.way)

-- a case without its gap; its upper edge is as far from the picture's as it ends before the pallet's side
unfoldable pub rect_text : Sides → ℕ → Spot → List ℕ
rect_text s number spot = box_text number (way_text spot.way) spot.x (upper_edge s spot) (across s spot.way) (along s spot.way)

-- the cases, numbered from 1
unfoldable pub rects_text : Sides → List Spot → List ℕ
rects_text s spots = numbered (rect_text s) 1 spots

-- the picture's frame and the pallet
unfoldable pub form_head : Sides → ℕ → List ℕ
form_head s number =
    codes "<figure><svg role=\"img\" class=\"form\" viewBox=\"-2 -2 " ++ (decimal (2 * s.pallet_x + 4) ++ (codes " " ++ (decimal (2 * s.pallet_y + 4) ++ (codes "\" font-size=\"" ++ (decimal s.short ++ (codes "\"><title>Form " ++ (decimal number ++ (codes "</title><desc>The layer from above on a pallet of " ++ (decimal s.pallet_x ++ (codes " by " ++ (decimal s.pallet_y ++ (codes ", its cases numbered</desc><path class=\"pallet\" d=\"M0 0h" ++ (decimal (2 * s.pallet_x) ++ (codes "v" ++ (decimal (2 * s.pallet_y) ++ (codes "H0z\"/>\n"))))))))))))))))

-- the line below the picture
unfoldable pub form_end : Sides → ℕ → List ℕ
form_end s number = codes "</svg><figcaption><b>Form " ++ (decimal number ++ (codes "</b> from above: " ++ (decimal s.pallet_x ++ (codes " across, " ++ (decimal s.pallet_y ++ codes " up; the cases by their numbers</figcaption></figure>\n")))))

-- a form as a figure
unfoldable pub form_text : Sides → ℕ → Listed → List ℕ
form_text s number l = form_head s number ++ (rects_text s l.spots ++ form_end s number)

-- the forms, numbered from 1
unfoldable pub forms_text : Sides → List Listed → List ℕ
forms_text s layers = numbered (form_text s) 1 layers
