-- The sides that the pictures need, and how far a case reaches.
use Rattle.std.specs.Prelude.{ℕ, List, codes}
use Rattle.plan_geometry.specs.declared.spots.Way.{Way}
use Rattle.plan_geometry.specs.declared.spots.Way.TheVariants.{Lying, Standing}
use Rattle.order_reader.specs.Orders.{OrderValue, pallet_x_of, pallet_y_of, case_z_of, long_of, short_of}
use Rattle.page_figures.specs.declared.sides.Sides.{Sides}

-- the pallet's sides, the case's sides, and its height
abbrev pub sides_of : OrderValue → Sides
sides_of o = record { pallet_x = pallet_x_of o; pallet_y = pallet_y_of o; long = long_of o; short = short_of o; height = case_z_of o }

-- how far a case reaches along x and along y
abbrev pub across : Sides → Way → ℕ
across s Lying = s.long
across s Standing = s.short

abbrev pub along : Sides → Way → ℕ
along s Lying = s.short
along s Standing = s.long

-- the class of a case that lies or stands, and the end of its attribute
abbrev pub way_text : Way → List ℕ
way_text Lying = codes "lying\""
way_text Standing = codes "standing\""
