-- The drawing of a layer: a character for each cell of its pallet.
use Rattle.std.specs.Prelude.{ℕ, zero, suc, ◌*◌, ◌%◌, nat_le, nat_lt, Bool, ◌&&◌, List, [], ◌∷◌, map, Option, Some, None, if◌then◌else◌, codes, decimal, slice_index}
use Rattle.std.specs.List.{position, range_with_len}
use Rattle.texts.specs.Lines.{spaced, text_of}
use Rattle.plan_geometry.specs.declared.spots.Spot.{Spot}
use Rattle.plan_geometry.specs.declared.instances.Inst.{Inst}
use Rattle.plan_geometry.specs.Layout.{x_end, y_end}

-- the case covers the cell whose corner of least x and y is (x, y)
abbrev pub covers : Inst → ℕ → ℕ → Spot → Bool
covers I x y s = (nat_le s.x x && nat_lt x (x_end I s)) && (nat_le s.y y && nat_lt y (y_end I s))

-- the letters, in order
abbrev pub letters : List ℕ
letters = codes "abcdefghijklmnopqrstuvwxyzABCDEFGHIJKLMNOPQRSTUVWXYZ"

-- the letter of the case of a number, from 0
abbrev pub letter : ℕ → ℕ
letter k = slice_index letters (k % 52)

-- a case's letter, or a full stop where there is none
abbrev pub character_of : Option ℕ → ℕ
character_of None = 46
character_of (Some k) = letter k

-- the character of a cell: the letter of the case that covers it
abbrev pub cell_character : Inst → List Spot → ℕ → ℕ → ℕ
cell_character I spots x y = character_of (position (covers I x y) spots)

-- the row of cells at y, the least x first
abbrev pub row_of : Inst → List Spot → ℕ → List ℕ
row_of I spots y = map (λ x. cell_character I spots x y) (range_with_len 0 I.l_side)

-- the rows below y, the greatest y first
abbrev pub rows_below : Inst → List Spot → ℕ → List (List ℕ)
rows_below I spots zero = []
rows_below I spots (suc y) = row_of I spots y ∷ rows_below I spots y

-- the sides along x and y, as drawing 5 5
abbrev pub head_words : Inst → List (List ℕ)
head_words I = codes "drawing" ∷ decimal I.l_side ∷ decimal I.w_side ∷ []

-- the sides and the rows, or none where the pallet has more than 40,000 cells
unfoldable pub drawing_lines : Inst → List Spot → List (List ℕ)
drawing_lines I spots =
    if nat_lt 40000 (I.l_side * I.w_side)
    then codes "drawing none" ∷ []
    else spaced (head_words I) ∷ rows_below I spots I.w_side

abbrev pub drawing_text : Inst → List Spot → List ℕ
drawing_text I spots = text_of (drawing_lines I spots)
