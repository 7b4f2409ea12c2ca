-- What a report has for each row.
use Rattle.std.specs.Prelude.{ℕ, Bool, true, false, List, [], ◌∷◌, map}
use Rattle.std.specs.List.{list_any}
use Rattle.plan_geometry.specs.declared.spots.Spot.{Spot}
use Rattle.plan_geometry.specs.declared.instances.Inst.{Inst}
use Rattle.plan_geometry.specs.Placed.{Placed}
use Rattle.layer_symmetry.specs.declared.symmetries.Move.{Move}
use Rattle.plan_entries.specs.declared.listed.Listed.{Listed}
use Rattle.plan_entries.specs.declared.entries.Entry.{Entry}
use Rattle.plan_entries.specs.declared.entries.Entry.TheVariants.{Planned, Refused}

-- the number of the row
abbrev pub number_of_entry : Entry → ℕ
number_of_entry (Planned p) = p.number
number_of_entry (Refused n fault) = n

-- the entry says that its row was refused
abbrev pub is_refused : Entry → Bool
is_refused (Planned p) = false
is_refused (Refused n fault) = true

abbrev pub any_refused : List Entry → Bool
any_refused = list_any is_refused

-- a listed layer as the variant of a layer of this instance
abbrev pub variant_on : Inst → Listed → Move × Placed
variant_on I l = (l.turn, record { inst = I; spots = l.spots })

abbrev pub variants_on : Inst → List Listed → List (Move × Placed)
variants_on I layers = map (variant_on I) layers

-- the cases of the first listed layer
abbrev pub first_spots : List Listed → List Spot
first_spots [] = []
first_spots (l ∷ ls) = l.spots
