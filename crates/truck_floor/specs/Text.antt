-- The line of a total.
use Rattle.std.specs.Prelude.{ℕ, Bool, true, false, List, [], ◌∷◌, codes, decimal}
use Rattle.texts.specs.Lines.{spaced, text_of}
use Rattle.texts.specs.Spelling.{IsInFront}
use Rattle.truck_floor.specs.declared.totals.Total.{Total}
use Rattle.truck_floor.specs.declared.totals.TotalLine.{TotalLine}
use Rattle.truck_floor.specs.declared.totals.TotalLine.TheVariants.{Numbers, Nothing}
use Rattle.truck_floor.specs.Totals.{IsWithin}

abbrev pub optimal_word : Bool → List ℕ
optimal_word true = codes "optimal"
optimal_word false = codes "open"

-- as total 34 x 56 of 34 x 56 optimal
abbrev pub numbers_words : Total → List (List ℕ)
numbers_words t =
    codes "total" ∷ decimal t.pallets ∷ codes "x" ∷ decimal t.cases
    ∷ codes "of" ∷ decimal t.pallet_bound ∷ codes "x" ∷ decimal t.case_bound ∷ optimal_word t.optimal ∷ []

-- or total none
abbrev pub total_words : TotalLine → List (List ℕ)
total_words (Numbers t) = numbers_words t
total_words Nothing = codes "total" ∷ codes "none" ∷ []

abbrev pub total_line : TotalLine → List ℕ
total_line line = spaced (total_words line)

-- the one line, and its text
abbrev pub total_lines : TotalLine → List (List ℕ)
total_lines line = total_line line ∷ []

abbrev pub total_text : TotalLine → List ℕ
total_text line = text_of (total_lines line)

-- what has a line: numbers within their ranges, or nothing
abbrev pub IsTotalLine : TotalLine → Type 0
IsTotalLine (Numbers t) = IsWithin t
IsTotalLine Nothing = Unit {0}

-- the bytes begin with the text, of this length, of a total
abbrev pub TotalIsInFront : List ℕ → TotalLine → ℕ → Type 0
TotalIsInFront bytes line len = IsInFront total_lines IsTotalLine bytes line len
