-- The pieces that a page is made of.
use Rattle.std.specs.Prelude.{ℕ, ◌+◌, List, [], ◌∷◌, ◌++◌, ◌==◌, codes, decimal, if◌then◌else◌}
use Rattle.std.specs.List.{flat_map}
use Rattle.page_pieces.specs.declared.pieces.Piece.{Piece}
use Rattle.page_pieces.specs.declared.pieces.Piece.TheVariants as pieces

-- a byte of an id as HTML may have it in a text or in an attribute between double quotes
abbrev pub escaped_byte : ℕ → List ℕ
escaped_byte b =
    if b == 60 then codes "&lt;"
    else if b == 62 then codes "&gt;"
    else if b == 38 then codes "&amp;"
    else if b == 34 then codes "&quot;"
    else if b == 39 then codes "&#39;"
    else b ∷ []

abbrev pub escaped : List ℕ → List ℕ
escaped id = flat_map escaped_byte id

abbrev pub piece_text : Piece → List ℕ
piece_text (pieces.Text text) = text.now
piece_text (pieces.Number n) = decimal n
piece_text (pieces.Id id) = escaped id.now

abbrev pub pieces_text : List Piece → List ℕ
pieces_text ps = flat_map piece_text ps

-- a text for each item, which are numbered from this number on
abbrev pub numbered : {A : Type 0} → (ℕ → A → List ℕ) → ℕ → List A → List ℕ
numbered f number [] = []
numbered f number (x ∷ xs) = f number x ++ numbered f (number + 1) xs
