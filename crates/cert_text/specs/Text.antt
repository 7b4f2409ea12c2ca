-- The one spelling of each certificate.
use Rattle.std.specs.Prelude.{ℕ, zero, suc, ◌+◌, List, [], ◌∷◌, ◌++◌, length, map, take, drop, codes, decimal}
use Rattle.texts.specs.Lines.{spaced, text_of}
use Rattle.line_tables.specs.Lines.{half}
use Rattle.weightings.specs.declared.kinds.Weighting.{Weighting}
use Rattle.weightings.specs.declared.kinds.Weighting.TheVariants as weightings
use Rattle.weightings.specs.declared.certs.Mark.{Mark}
use Rattle.weightings.specs.declared.certs.Mark.TheVariants.{Branch, Leaf}
use Rattle.weightings.specs.declared.certs.StripCut.{StripCut}
use Rattle.weightings.specs.declared.certs.StripCut.TheVariants as cuts
use Rattle.weightings.specs.declared.certs.Cert.{Cert}
use Rattle.weightings.specs.declared.certs.Cert.TheVariants as certs

-- the words of a weighting's first line
abbrev pub weighting_words : Weighting → List (List ℕ)
weighting_words weightings.Area = codes "weighting" ∷ codes "area" ∷ []
weighting_words (weightings.Colour k c) = codes "weighting" ∷ codes "colour" ∷ decimal k ∷ decimal c ∷ []
weighting_words (weightings.Comb p a r b) = codes "weighting" ∷ codes "comb" ∷ decimal p ∷ decimal a ∷ decimal r ∷ decimal b ∷ []
weighting_words (weightings.Table t) = codes "weighting" ∷ codes "table" ∷ decimal t.x_side ∷ decimal t.y_side ∷ []
weighting_words (weightings.Lines t) = codes "weighting" ∷ codes "lines" ∷ decimal (length t.columns) ∷ decimal (length t.rows) ∷ []

abbrev pub row_words : List ℕ → List (List ℕ)
row_words cells = codes "row" ∷ map decimal cells

-- columns or rows, behind the word for them
abbrev pub lines_words : List ℕ → List ℕ → List (List ℕ)
lines_words name lines = name ∷ map decimal lines

-- so many rows of a table, from the front of its cells
abbrev pub row_lines : ℕ → ℕ → List ℕ → List (List ℕ)
row_lines x_side zero cells = []
row_lines x_side (suc n) cells = spaced (row_words (take x_side cells)) ∷ row_lines x_side n (drop x_side cells)

-- the lines behind a weighting's first line
abbrev pub rows_of : Weighting → List (List ℕ)
rows_of weightings.Area = []
rows_of (weightings.Colour k c) = []
rows_of (weightings.Comb p a r b) = []
rows_of (weightings.Table t) = row_lines t.x_side t.y_side t.cells
rows_of (weightings.Lines t) = spaced (lines_words (codes "columns") t.columns) ∷ spaced (lines_words (codes "rows") t.rows) ∷ row_lines (half (length t.columns)) (half (length t.rows)) t.quarter

abbrev pub weighting_lines : Weighting → List (List ℕ)
weighting_lines w = spaced (weighting_words w) ∷ rows_of w

-- B for a branch, a full stop for a leaf
abbrev pub mark_byte : Mark → ℕ
mark_byte Branch = 66
mark_byte Leaf = 46

abbrev pub tree_line : List Mark → List ℕ
tree_line marks = codes "tree " ++ map mark_byte marks

abbrev pub cut_numbers : StripCut → List (List ℕ)
cut_numbers cuts.Area = codes "area" ∷ []
cut_numbers (cuts.X a b q) = codes "x" ∷ decimal a ∷ decimal b ∷ decimal q ∷ []
cut_numbers (cuts.Y a b q) = codes "y" ∷ decimal a ∷ decimal b ∷ decimal q ∷ []

-- the cut at this place
abbrev pub cut_words : ℕ → StripCut → List (List ℕ)
cut_words place c = codes "cut" ∷ decimal place ∷ cut_numbers c

-- cuts from this place on
abbrev pub cut_lines : ℕ → List StripCut → List (List ℕ)
cut_lines place [] = []
cut_lines place (c ∷ cs) = spaced (cut_words place c) ∷ cut_lines (place + 1) cs

unfoldable pub cert_lines : Cert → List (List ℕ)
cert_lines (certs.Weighted w t) = codes "cert weighted" ∷ (weighting_lines w ++ tree_line t ∷ [])
cert_lines (certs.Strip cs) = spaced (codes "cert" ∷ codes "strip" ∷ decimal (length cs) ∷ []) ∷ cut_lines 0 cs
cert_lines certs.GivenArea = codes "cert given-area" ∷ []

abbrev pub cert_text : Cert → List ℕ
cert_text c = text_of (cert_lines c)
