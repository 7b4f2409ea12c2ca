-- The ranges within which a certificate has a text.
use Rattle.std.specs.Prelude.{ℕ, ◌≡◌, ◌*◌, nat_le, nat_lt, Bool, true, ◌&&◌, ◌==◌, List, [], ◌∷◌, length}
use Rattle.std.specs.List.{list_all}
use Rattle.line_tables.specs.Lines.{half}
use Rattle.weightings.specs.declared.kinds.Weighting.{Weighting}
use Rattle.weightings.specs.declared.kinds.Weighting.TheVariants as weightings
use Rattle.weightings.specs.declared.certs.Mark.{Mark}
use Rattle.weightings.specs.declared.certs.StripCut.{StripCut}
use Rattle.weightings.specs.declared.certs.StripCut.TheVariants as cuts
use Rattle.weightings.specs.declared.certs.Cert.{Cert}
use Rattle.weightings.specs.declared.certs.Cert.TheVariants as certs
use Rattle.cert_text.specs.declared.forms.Form.{Form}
use Rattle.cert_text.specs.Forms.{most_cuts, has_tables}

-- the sides of a table: each from 1 to 4,000, and at most 40,000 cells
abbrev pub are_sides : ℕ → ℕ → Bool
are_sides x y = nat_le 1 x && (nat_le x 4000 && (nat_le 1 y && (nat_le y 4000 && nat_le (x * y) 40000)))

-- how many columns and rows a table on lines has: each from 1 to 4,000, and at most 40,000 crossings of their halves
abbrev pub are_counts : ℕ → ℕ → Bool
are_counts k m = nat_le 1 k && (nat_le k 4000 && (nat_le 1 m && (nat_le m 4000 && nat_le (half k * half m) 40000)))

-- each number is below the next
abbrev pub are_rising : List ℕ → Bool
are_rising [] = true
are_rising (n ∷ []) = true
are_rising (n ∷ m ∷ ns) = nat_lt n m && are_rising (m ∷ ns)

-- rising, none above 3,999
abbrev pub are_lines : List ℕ → Bool
are_lines lines = list_all (λ line. nat_le line 3999) lines && are_rising lines

-- a weight for each cell, none above 100,000
abbrev pub are_weights : ℕ → List ℕ → Bool
are_weights count cells = (length cells == count) && list_all (λ weight. nat_le weight 100000) cells

abbrev pub is_weighting : Form → Weighting → Bool
is_weighting form weightings.Area = true
is_weighting form (weightings.Colour k c) = nat_le 1 k && (nat_le k 4000 && nat_lt c k)
is_weighting form (weightings.Comb p a r b) = nat_le 1 p && (nat_le p 4000 && (nat_lt a p && (nat_le 1 r && (nat_le r 4000 && nat_lt b r))))
is_weighting form (weightings.Table t) = (has_tables form && are_sides t.x_side t.y_side) && are_weights (t.y_side * t.x_side) t.cells
is_weighting form (weightings.Lines t) = (has_tables form && are_counts (length t.columns) (length t.rows)) && (are_lines t.columns && (are_lines t.rows && are_weights (half (length t.rows) * half (length t.columns)) t.quarter))

abbrev pub is_tree : List Mark → Bool
is_tree marks = nat_le 1 (length marks) && nat_le (length marks) 500000

abbrev pub is_cut : StripCut → Bool
is_cut cuts.Area = true
is_cut (cuts.X a b q) = nat_le a 4000 && (nat_le b 4000 && nat_le q 9999999999)
is_cut (cuts.Y a b q) = nat_le a 4000 && (nat_le b 4000 && nat_le q 9999999999)

abbrev pub are_cuts : Form → List StripCut → Bool
are_cuts form cs = nat_le 2 (length cs) && (nat_le (length cs) (most_cuts form) && list_all is_cut cs)

abbrev pub in_range : Form → Cert → Bool
in_range form (certs.Weighted w t) = is_weighting form w && is_tree t
in_range form (certs.Strip cs) = are_cuts form cs
in_range form certs.GivenArea = true

-- the certificate is within the ranges of the form
abbrev pub InRange : Form → Cert → Type 0
InRange form c = in_range form c ≡ true
