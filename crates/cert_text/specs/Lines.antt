-- Reading a certificate line by line.
use Rattle.std.specs.Prelude.{ℕ, zero, suc, ◌+◌, List, [], ◌∷◌, ◌++◌, codes, Ok}
use Rattle.texts.specs.Grammar.{Reading, ◌>>=◌, first_by}
use Rattle.line_tables.specs.Lines.{half}
use Rattle.weightings.specs.declared.kinds.Weighting.{Weighting}
use Rattle.weightings.specs.declared.kinds.Weighting.TheVariants as weightings
use Rattle.weightings.specs.declared.certs.StripCut.{StripCut}
use Rattle.weightings.specs.declared.certs.Cert.{Cert}
use Rattle.weightings.specs.declared.certs.Cert.TheVariants as certs
use Rattle.cert_text.specs.Words.{weight_line_of, row_of, lines_of, tree_of, cut_of, head_of}
use Rattle.cert_text.specs.declared.forms.Form.{Form}
use Rattle.cert_text.specs.declared.words.WeightLine.{WeightLine}
use Rattle.cert_text.specs.declared.words.WeightLine.TheVariants as weight_lines
use Rattle.cert_text.specs.declared.words.Head.{Head}
use Rattle.cert_text.specs.declared.words.Head.TheVariants as heads

-- the cells of so many rows
unfoldable pub rows_from : ℕ → ℕ → List (List ℕ) → Reading (List ℕ) (List ℕ)
rows_from x_side zero ls = Ok ([], ls)
rows_from x_side (suc n) ls = do
  row ← first_by (row_of x_side) ls
  others ← rows_from x_side n row.1
  Ok (row.0 ++ others.0, others.1)

-- the weighting whose first line was read
unfoldable pub weighting_of : WeightLine → List (List ℕ) → Reading (List ℕ) Weighting
weighting_of weight_lines.Area ls = Ok (weightings.Area, ls)
weighting_of (weight_lines.Colour k c) ls = Ok (weightings.Colour k c, ls)
weighting_of (weight_lines.Comb p a r b) ls = Ok (weightings.Comb p a r b, ls)
weighting_of (weight_lines.Table x y) ls = do
  cells ← rows_from x y ls
  Ok (weightings.Table (record { x_side = x; y_side = y; cells = cells.0 }), cells.1)
weighting_of (weight_lines.Lines k m) ls = do
  columns ← first_by (lines_of (codes "columns") k) ls
  rows ← first_by (lines_of (codes "rows") m) columns.1
  quarter ← rows_from (half k) (half m) rows.1
  Ok (weightings.Lines (record { columns = columns.0; rows = rows.0; quarter = quarter.0 }), quarter.1)

unfoldable pub weighting_from : Form → List (List ℕ) → Reading (List ℕ) Weighting
weighting_from form ls = do
  h ← first_by (weight_line_of form) ls
  weighting_of h.0 h.1

-- so many cuts, from this place on
unfoldable pub cuts_from : ℕ → ℕ → List (List ℕ) → Reading (List ℕ) (List StripCut)
cuts_from zero place ls = Ok ([], ls)
cuts_from (suc n) place ls = do
  c ← first_by (cut_of place) ls
  cs ← cuts_from n (place + 1) c.1
  Ok (c.0 ∷ cs.0, cs.1)

-- the certificate whose first line was read
unfoldable pub body_of : Form → Head → List (List ℕ) → Reading (List ℕ) Cert
body_of form heads.Weighted ls = do
  w ← weighting_from form ls
  t ← first_by tree_of w.1
  Ok (certs.Weighted w.0 t.0, t.1)
body_of form (heads.Strip k) ls = do
  cs ← cuts_from k 0 ls
  Ok (certs.Strip cs.0, cs.1)
body_of form heads.GivenArea ls = Ok (certs.GivenArea, ls)

unfoldable pub cert_at : Form → List (List ℕ) → Reading (List ℕ) Cert
cert_at form ls = do
  h ← first_by (head_of form) ls
  body_of form h.0 h.1
