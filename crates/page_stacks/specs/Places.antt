-- The layers of a stack that have a form.
use Rattle.std.specs.Prelude.{ℕ, ◌+◌, ◌==◌, List, [], ◌∷◌, ◌++◌, codes, decimal, if◌then◌else◌}
use Rattle.std.specs.List.{flat_map}

-- this place, where the number is the one that is asked for
abbrev pub place_if : ℕ → ℕ → ℕ → List ℕ
place_if asked place number = if number == asked then place ∷ [] else []

-- the places at which a list has a number, the first place counted as this one
abbrev pub places_from : ℕ → ℕ → List ℕ → List ℕ
places_from asked place [] = []
places_from asked place (n ∷ ns) = place_if asked place n ++ places_from asked (place + 1) ns

-- the places at which a list has a number, counted from 1: of a stack the layers that have a form, from the pallet up
abbrev pub places_of : ℕ → List ℕ → List ℕ
places_of asked ns = places_from asked 1 ns

-- a number behind a comma
abbrev pub behind_comma : ℕ → List ℕ
behind_comma n = codes ", " ++ decimal n

-- numbers with a comma between each two
abbrev pub listed : List ℕ → List ℕ
listed [] = []
listed (n ∷ ns) = decimal n ++ flat_map behind_comma ns
