-- The lines of a design: its head, and the tail with the best size.
use Rattle.std.specs.Prelude.{ℕ, List, [], ◌∷◌, ◌++◌, codes, map, Option, Some, None}
use Rattle.texts.specs.Lines.{spaced, text_of}
use Rattle.pallet_choice.specs.Text.{told_words}
use Rattle.case_design.specs.declared.faults.DesignFault.{DesignFault}
use Rattle.case_design.specs.declared.faults.DesignFault.TheVariants.{FieldCount, BadId, BadNumber, OutOfRange, NoSize, TooManySizes}
use Rattle.case_design.specs.declared.designs.Design.{Design}
use Rattle.case_design.specs.declared.designs.Design.TheVariants.{Nothing, Refused, Rows}
use Rattle.case_design.specs.declared.best.Cover.{Cover}
use Rattle.case_design.specs.Columns.{column_name}

-- a fault by its name, and by the column of the number at fault
abbrev pub fault_words : DesignFault → List (List ℕ)
fault_words FieldCount = codes "FieldCount" ∷ []
fault_words BadId = codes "BadId" ∷ []
fault_words (BadNumber column) = codes "BadNumber" ∷ column_name column ∷ []
fault_words (OutOfRange column) = codes "OutOfRange" ∷ column_name column ∷ []
fault_words NoSize = codes "NoSize" ∷ []
fault_words TooManySizes = codes "TooManySizes" ∷ []

-- a refused row, as refused BadNumber long_to
abbrev pub refused_line : DesignFault → List ℕ
refused_line fault = spaced (codes "refused" ∷ fault_words fault)

-- the id of a row, which may have spaces
abbrev pub id_line : List ℕ → List ℕ
id_line id = codes "id " ++ id

-- the first line, and the line of the row, where there is one
abbrev pub row_lines : Design → List (List ℕ)
row_lines Nothing = []
row_lines (Refused fault) = refused_line fault ∷ []
row_lines (Rows id rows) = id_line id.items ∷ []

abbrev pub head_text : Design → List ℕ
head_text design = text_of (codes "pallet-design 1" ∷ row_lines design)

-- what is told of the best, and of a rival: its number, and the cells that it covers or may cover
abbrev pub covers_told : Cover → ℕ × ℕ
covers_told c = (c.number, c.covers)

abbrev pub may_told : Cover → ℕ × ℕ
may_told c = (c.number, c.may)

-- the best size, as best 2 covers 35, or best none
abbrev pub best_words : Option Cover → List (List ℕ)
best_words None = codes "best" ∷ codes "none" ∷ []
best_words (Some best) = told_words (codes "best") (codes "covers") (covers_told best)

-- a rival, as rival 2 covers 36
abbrev pub rival_line : Cover → List ℕ
rival_line rival = spaced (told_words (codes "rival") (codes "covers") (may_told rival))

-- the best size, and a line for each rival
unfoldable pub best_lines : Option Cover → List Cover → List (List ℕ)
best_lines best rivals = spaced (best_words best) ∷ map rival_line rivals

abbrev pub best_text : Option Cover → List Cover → List ℕ
best_text best rivals = text_of (best_lines best rivals)
