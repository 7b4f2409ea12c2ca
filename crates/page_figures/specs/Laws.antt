-- What a reader can take from the picture of a form.
use Rattle.std.specs.Prelude.{ℕ, ◌≡◌, ◌+◌, ◌≤◌, ◌<◌, ◌^◌}
use Rattle.plan_geometry.specs.declared.spots.Spot.{Spot}
use Rattle.page_figures.specs.declared.sides.Sides.{Sides}
use Rattle.page_figures.specs.Sides.{across, along}
use Rattle.page_figures.specs.Forms.{rect_text}

-- the case lies on the pallet
abbrev pub IsOnPallet : Sides → Spot → Type 0
IsOnPallet s spot = (spot.x + across s spot.way ≤ s.pallet_x) × (spot.y + along s spot.way ≤ s.pallet_y)

-- the rectangle and the number of a case on the pallet are those of no other case on it
abbrev pub RectanglesTellCases : Type 0
RectanglesTellCases = (s : Sides) (number : ℕ) (a b : Spot) → s.pallet_x < 2 ^ 32 → s.pallet_y < 2 ^ 32 → IsOnPallet s a → IsOnPallet s b → rect_text s number a ≡ rect_text s number b → a ≡ b
