use Rattle.std.specs.Prelude.{◌≡◌, ℕ, ◌-◌, ◌≤◌, ◌↔◌}
use Rattle.partitions.specs.Partitions.{IsNormal}
use Rattle.raster_points.specs.Places.{IsDown, IsRaster}

-- a side has one greatest normal place
abbrev pub HasOneDown : Type 0
HasOneDown = (side long short a b : ℕ) → IsDown side long short a → IsDown side long short b → a ≡ b

-- the greatest normal place of a longer side is no lesser
abbrev pub DownRises : Type 0
DownRises =
    (side other long short a b : ℕ) → side ≤ other
    → IsDown side long short a → IsDown other long short b → a ≤ b

-- a place is normal exactly where it is the greatest normal place up to itself
abbrev pub DownRoundsItself : Type 0
DownRoundsItself =
    (side long short place down : ℕ) → place ≤ side
    → IsDown place long short down → (down ≡ place) ↔ IsNormal side long short place

-- A place on a side is a raster place exactly where it comes back: `left` is what it leaves of the side,
-- rounded down, and `again` what `left` leaves of the side, rounded down.
abbrev pub RasterRoundsBack : Type 0
RasterRoundsBack =
    (side long short place left again : ℕ) → place ≤ side
    → IsDown (side - place) long short left → IsDown (side - left) long short again
    → (again ≡ place) ↔ IsRaster side long short place

-- each raster place is normal
abbrev pub RasterIsNormal : Type 0
RasterIsNormal = (side long short place : ℕ) → IsRaster side long short place → IsNormal side long short place
