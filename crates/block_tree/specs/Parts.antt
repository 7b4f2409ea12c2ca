-- The parts of a cut: how each stands in the whole, and that together they are the whole.
use Rattle.std.specs.Prelude.{ℕ, Bool, true, false, ◌+◌, ◌-◌, ◌≤◌, ◌≡◌, List, [], ◌∷◌, All, AllPairs, Any}
use Rattle.block_tree.specs.declared.regions.Region.{Region}
use Rattle.block_tree.specs.declared.regions.Cut.{Cut}
use Rattle.block_tree.specs.declared.regions.Cut.TheVariants.{K1, K2, K3, K4}
use Rattle.block_tree.specs.declared.parts.Part.{Part}
use Rattle.block_tree.specs.Regions.{Holds, IsOrdered, is_rectangle, side_x, side_y, region, rectangle}

-- along one side, the cell of the whole on which a cell of a part stands; a side that is flipped runs back from `at`
abbrev pub StandsOn : Bool → ℕ → ℕ → ℕ → Type 0
StandsOn false at own whole = whole ≡ at + own
StandsOn true at own whole = whole + own + 1 ≡ at

-- the cell (i, j) of the whole is one of the part's
pub record PartHolds (p : Part) (i j : ℕ) : Type 0 where
  pub own_x : ℕ
  pub own_y : ℕ
  pub on_x : StandsOn p.flip_x p.at_x own_x i
  pub on_y : StandsOn p.flip_y p.at_y own_y j
  pub held : Holds p.region own_x own_y

-- the parts lie in the region, share no cell, and leave none
pub record Tile (r : Region) (parts : List Part) : Type 0 where
  pub inside : All (λ p. (i j : ℕ) → PartHolds p i j → Holds r i j) parts
  pub apart : AllPairs (λ p q. (i j : ℕ) → PartHolds p i j → PartHolds q i j → ⊥) parts
  pub whole : (i j : ℕ) → Holds r i j → Any (λ p. PartHolds p i j) parts

-- ---- how a part stands

abbrev pub moved : ℕ → ℕ → Region → Part
moved x y r = record { region = r; flip_x = false; at_x = x; flip_y = false; at_y = y }

abbrev pub half_turned : ℕ → ℕ → Region → Part
half_turned a b r = record { region = r; flip_x = true; at_x = a; flip_y = true; at_y = b }

abbrev pub mirrored_x : ℕ → Region → Part
mirrored_x a r = record { region = r; flip_x = true; at_x = a; flip_y = false; at_y = 0 }

abbrev pub mirrored_y : ℕ → Region → Part
mirrored_y b r = record { region = r; flip_x = false; at_x = 0; flip_y = true; at_y = b }

-- ---- five blocks

-- x cuts and y cuts, in order, within the sides of a rectangle
abbrev pub AreFiveCuts : Region → ℕ → ℕ → ℕ → ℕ → Type 0
AreFiveCuts r x1 x2 y1 y2 = (is_rectangle r ≡ true) × (x1 ≤ x2) × (x2 ≤ side_x r) × (y1 ≤ y2) × (y2 ≤ side_y r)

abbrev pub five_parts : ℕ → ℕ → ℕ → ℕ → ℕ → ℕ → List Part
five_parts a b x1 x2 y1 y2 =
    moved 0 0 (rectangle x2 y1) ∷ moved x2 0 (rectangle (a - x2) y2) ∷ moved 0 y1 (rectangle x1 (b - y1))
    ∷ moved x1 y2 (rectangle (a - x1) (b - y2)) ∷ moved x1 y1 (rectangle (x2 - x1) (y2 - y1)) ∷ []

-- ---- the four cuts into two L-regions

abbrev pub IsCut : Region → Cut → Type 0
IsCut r (K1 x1 x2 y1) = (is_rectangle r ≡ true) × (x1 ≤ x2) × (x2 ≤ side_x r) × (y1 ≤ side_y r)
IsCut r (K2 c h) = (is_rectangle r ≡ false) × (c ≤ r.small_x) × (h ≤ r.small_y)
IsCut r (K3 d h) = (is_rectangle r ≡ false) × (r.small_x ≤ d) × (d ≤ r.big_x) × (h ≤ r.small_y)
IsCut r (K4 c e) = (is_rectangle r ≡ false) × (c ≤ r.small_x) × (r.small_y ≤ e) × (e ≤ r.big_y)

abbrev pub ell_parts : Region → Cut → List Part
ell_parts r (K1 x1 x2 y1) =
    moved 0 0 (region x2 (side_y r) x1 y1)
    ∷ half_turned (side_x r) (side_y r) (region (side_x r - x1) (side_y r) (side_x r - x2) (side_y r - y1)) ∷ []
ell_parts r (K2 c h) =
    moved 0 0 (region r.big_x r.big_y c h) ∷ moved c h (region (r.big_x - c) (r.big_y - h) (r.small_x - c) (r.small_y - h)) ∷ []
ell_parts r (K3 d h) =
    moved 0 h (region d (r.big_y - h) r.small_x (r.small_y - h)) ∷ mirrored_x r.big_x (region r.big_x r.small_y (r.big_x - d) h) ∷ []
ell_parts r (K4 c e) =
    moved c 0 (region (r.big_x - c) e (r.small_x - c) r.small_y) ∷ mirrored_y r.big_y (region r.small_x r.big_y c (r.big_y - e)) ∷ []

-- ---- the law of parts

abbrev pub FivePartsLaw : Type 0
FivePartsLaw = (r : Region) (x1 x2 y1 y2 : ℕ) → IsOrdered r → AreFiveCuts r x1 x2 y1 y2 → Tile r (five_parts (side_x r) (side_y r) x1 x2 y1 y2)

abbrev pub EllPartsLaw : Type 0
EllPartsLaw = (r : Region) (cut : Cut) → IsOrdered r → IsCut r cut → Tile r (ell_parts r cut)
