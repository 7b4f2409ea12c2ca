-- A weighting is read exactly, line by line.
use Rattle.std.proofs.Common.{◌≡◌, ℕ, ◌≤◌, ◌*◌, List, [], ◌∷◌, ◌++◌, length, Ok, refl, sym, ap, subst, ◌∙◌, arith, true, eqb, leb, eq-eqb}
use Rattle.std.specs.Prelude.{◌&&◌}
use Rattle.std.specs.List.{list_all, AllByRecursion}
use Rattle.std.proofs.lemmas.Bool.{leb-true, eqb-true}
use Rattle.std.proofs.lemmas.List.{append-nil}
use Rattle.std.proofs.lemmas.List.Sums.{AllPass-from_list_all}
use Rattle.std.proofs.Math.Nat.{mul_comm}
use Rattle.texts.specs.Lines.{spaced}
use Rattle.texts.specs.Grammar.{Reads, ◌>>=◌, first_by}
use Rattle.texts.proofs.LineEnds.{IsPlain}
use Rattle.texts.proofs.Readers.{reads_none, reads_then, reads_as}
use Rattle.texts.proofs.Parsers.{both_true, plain_spaced}
use Rattle.weightings.specs.Table.{CellTable, IsTable}
use Rattle.weightings.specs.declared.kinds.Weighting.{Weighting}
use Rattle.weightings.specs.declared.kinds.Weighting.TheVariants as weightings
use Rattle.cert_text.specs.Forms.{has_tables}
use Rattle.cert_text.specs.Ranges.{are_sides, are_weights, is_weighting}
use Rattle.cert_text.specs.Text.{weighting_words, row_lines, rows_of, weighting_lines}
use Rattle.cert_text.specs.Words.{weight_line_of}
use Rattle.cert_text.specs.Lines.{rows_from, weighting_of, weighting_from}
use Rattle.cert_text.specs.declared.forms.Form.{Form}
use Rattle.cert_text.specs.declared.words.WeightLine.{WeightLine}
use Rattle.cert_text.specs.declared.words.WeightLine.TheVariants as weight_lines
use Rattle.cert_text.proofs.WeightWords.{GoodLine, line_words, weight_line_reads, weight_line_solid}
use Rattle.std.specs.Prelude.{codes}
use Rattle.line_tables.specs.Lines.{Lines, half, IsLineTable}
use Rattle.cert_text.specs.Ranges.{are_counts, are_lines, are_rising}
use Rattle.cert_text.specs.Text.{lines_words}
use Rattle.cert_text.specs.Words.{lines_of}
use Rattle.cert_text.proofs.LineWords.{AreSoMany, places, places_are_lines, lines_read, lines_solid, are_axis_lines}
use Rattle.cert_text.proofs.RowReaders.{by_line, AreCells, rows_read, row_lines_plain, length-row_lines}

-- ---- a weighting

abbrev weight_line : Weighting → WeightLine
weight_line weightings.Area = weight_lines.Area
weight_line (weightings.Colour k c) = weight_lines.Colour k c
weight_line (weightings.Comb p a r b) = weight_lines.Comb p a r b
weight_line (weightings.Table t) = weight_lines.Table t.x_side t.y_side
weight_line (weightings.Lines t) = weight_lines.Lines (length t.columns) (length t.rows)

abbrev cells_key : Weighting → List ℕ
cells_key weightings.Area = []
cells_key (weightings.Colour k c) = []
cells_key (weightings.Comb p a r b) = []
cells_key (weightings.Table t) = t.cells
cells_key (weightings.Lines t) = t.quarter

abbrev columns_key : Weighting → List ℕ
columns_key weightings.Area = []
columns_key (weightings.Colour k c) = []
columns_key (weightings.Comb p a r b) = []
columns_key (weightings.Table t) = []
columns_key (weightings.Lines t) = t.columns

abbrev rows_key : Weighting → List ℕ
rows_key weightings.Area = []
rows_key (weightings.Colour k c) = []
rows_key (weightings.Comb p a r b) = []
rows_key (weightings.Table t) = []
rows_key (weightings.Lines t) = t.rows

abbrev pub GoodWeighting : Form → Weighting → Type 0
GoodWeighting form w = is_weighting form w ≡ true

abbrev IsOf : Form → WeightLine → Weighting → Type 0
IsOf form h w = GoodWeighting form w × (weight_line w ≡ h)

good_line : (form : Form) (w : Weighting) → GoodWeighting form w → GoodLine form (weight_line w)
good_line form weightings.Area f = refl
good_line form (weightings.Colour k c) f = f
good_line form (weightings.Comb p a r b) f = f
good_line form (weightings.Table t) f = (both_true (has_tables form && are_sides t.x_side t.y_side) (are_weights (t.y_side * t.x_side) t.cells) f).0
good_line form (weightings.Lines t) f = (both_true (has_tables form && are_counts (length t.columns) (length t.rows)) (are_lines t.columns && (are_lines t.rows && are_weights (half (length t.rows) * half (length t.columns)) t.quarter)) f).0

area_is : (form : Form) (w : Weighting) → IsOf form weight_lines.Area w → w ≡ weightings.Area
area_is form weightings.Area f = refl
area_is form (weightings.Colour k c) f = let e = f.1 in absurd cc
area_is form (weightings.Comb p a r b) f = let e = f.1 in absurd cc
area_is form (weightings.Table t) f = let e = f.1 in absurd cc
area_is form (weightings.Lines t) f = let e = f.1 in absurd cc

colour_is : (form : Form) (k c : ℕ) (w : Weighting) → IsOf form (weight_lines.Colour k c) w → w ≡ weightings.Colour k c
colour_is form k c weightings.Area f = let e = f.1 in absurd cc
colour_is form k c (weightings.Colour x y) f =
    let e = f.1 in
    let p : x ≡ k = cc in
    let q : y ≡ c = cc in
    rw (p, q) refl
colour_is form k c (weightings.Comb p a r b) f = let e = f.1 in absurd cc
colour_is form k c (weightings.Table t) f = let e = f.1 in absurd cc
colour_is form k c (weightings.Lines t) f = let e = f.1 in absurd cc

comb_is : (form : Form) (p a r b : ℕ) (w : Weighting) → IsOf form (weight_lines.Comb p a r b) w → w ≡ weightings.Comb p a r b
comb_is form p a r b weightings.Area f = let e = f.1 in absurd cc
comb_is form p a r b (weightings.Colour x y) f = let e = f.1 in absurd cc
comb_is form p a r b (weightings.Comb x y z u) f =
    let e = f.1 in
    let s1 : x ≡ p = cc in
    let s2 : y ≡ a = cc in
    let s3 : z ≡ r = cc in
    let s4 : u ≡ b = cc in
    rw (s1, s2, s3, s4) refl
comb_is form p a r b (weightings.Table t) f = let e = f.1 in absurd cc
comb_is form p a r b (weightings.Lines t) f = let e = f.1 in absurd cc

table : ℕ → ℕ → List ℕ → CellTable
table x y cells = record { x_side = x; y_side = y; cells = cells }

table_is : (form : Form) (x y : ℕ) (cells : List ℕ) (w : Weighting) → IsOf form (weight_lines.Table x y) w × (cells_key w ≡ cells) → w ≡ weightings.Table (record { x_side = x; y_side = y; cells = cells })
unfolding table
table_is form x y cells weightings.Area f = let e = f.0.1 in absurd cc
table_is form x y cells (weightings.Colour k c) f = let e = f.0.1 in absurd cc
table_is form x y cells (weightings.Comb p a r b) f = let e = f.0.1 in absurd cc
table_is form x y cells (weightings.Lines t) f = let e = f.0.1 in absurd cc
table_is form x y cells (weightings.Table t) f =
    let e = f.0.1 in
    let p : t.x_side ≡ x = cc in
    let q : t.y_side ≡ y = cc in
    ap (λ (n : ℕ). weightings.Table (table n t.y_side t.cells)) p ∙ ap (λ (n : ℕ). weightings.Table (table x n t.cells)) q ∙ ap (λ (cs : List ℕ). weightings.Table (table x y cs)) f.1

table_cells : (form : Form) (x y : ℕ) (w : Weighting) → IsOf form (weight_lines.Table x y) w → AreCells x y (cells_key w)
table_cells form x y weightings.Area f = let e = f.1 in absurd cc
table_cells form x y (weightings.Colour k c) f = let e = f.1 in absurd cc
table_cells form x y (weightings.Comb p a r b) f = let e = f.1 in absurd cc
table_cells form x y (weightings.Lines t) f = let e = f.1 in absurd cc
table_cells form x y (weightings.Table t) f =
    let e = f.1 in
    let p : t.x_side ≡ x = cc in
    let q : t.y_side ≡ y = cc in
    let g = both_true (has_tables form && are_sides t.x_side t.y_side) (are_weights (t.y_side * t.x_side) t.cells) f.0 in
    let h = both_true (eqb (length t.cells) (t.y_side * t.x_side)) (list_all (λ w. leb w 100000) t.cells) g.1 in
    (eqb-true (length t.cells) (t.y_side * t.x_side) h.0 ∙ ap (λ (n : ℕ). n * t.x_side) q ∙ ap (λ (n : ℕ). y * n) p, h.1)

table_good : (form : Form) (x y : ℕ) (cells : List ℕ) → GoodLine form (weight_lines.Table x y) → AreCells x y cells → GoodWeighting form (weightings.Table (record { x_side = x; y_side = y; cells = cells }))
table_good form x y cells good f =
    let w : are_weights (y * x) cells ≡ true = rw (eq-eqb (length cells) (y * x) f.0, f.1) refl in
    rw (good, w) refl

table_rows : (form : Form) (x y : ℕ) (w : Weighting) → IsOf form (weight_lines.Table x y) w → rows_of w ≡ row_lines x y (cells_key w) ++ []
table_rows form x y weightings.Area f = let e = f.1 in absurd cc
table_rows form x y (weightings.Colour k c) f = let e = f.1 in absurd cc
table_rows form x y (weightings.Comb p a r b) f = let e = f.1 in absurd cc
table_rows form x y (weightings.Lines t) f = let e = f.1 in absurd cc
table_rows form x y (weightings.Table t) f =
    let e = f.1 in
    let p : t.x_side ≡ x = cc in
    let q : t.y_side ≡ y = cc in
    ap (λ (n : ℕ). row_lines n t.y_side t.cells) p ∙ ap (λ (n : ℕ). row_lines x n t.cells) q ∙ sym (append-nil (row_lines x y t.cells))

-- the counts of columns and rows of a table that has a text
pub record HasCounts (k m : ℕ) : Type 0 where
  pub some_columns : 1 ≤ k
  pub short_columns : k ≤ 4000
  pub some_rows : 1 ≤ m
  pub short_rows : m ≤ 4000
  pub few : half k * half m ≤ 40000

pub has_counts : (form : Form) (k m : ℕ) → GoodLine form (weight_lines.Lines k m) → HasCounts k m
has_counts form k m good =
    let h0 = both_true (has_tables form) (are_counts k m) good in
    let h1 = both_true (leb 1 k) (leb k 4000 && (leb 1 m && (leb m 4000 && leb (half k * half m) 40000))) h0.1 in
    let h2 = both_true (leb k 4000) (leb 1 m && (leb m 4000 && leb (half k * half m) 40000)) h1.1 in
    let h3 = both_true (leb 1 m) (leb m 4000 && leb (half k * half m) 40000) h2.1 in
    let h4 = both_true (leb m 4000) (leb (half k * half m) 40000) h3.1 in
    record { some_columns = leb-true 1 k h1.0; short_columns = leb-true k 4000 h2.0; some_rows = leb-true 1 m h3.0; short_rows = leb-true m 4000 h4.0; few = leb-true (half k * half m) 40000 h4.1 }

-- ---- a table on lines

-- what is behind the first line of a table on so many columns and rows
record AreOfLines (k m : ℕ) (w : Weighting) : Type 0 where
  pub columns : AreSoMany k (columns_key w)
  pub rows : AreSoMany m (rows_key w)
  pub quarter : AreCells (half k) (half m) (cells_key w)

lines_are : (form : Form) (k m : ℕ) (w : Weighting) → IsOf form (weight_lines.Lines k m) w → AreOfLines k m w
lines_are form k m weightings.Area f = let e = f.1 in absurd cc
lines_are form k m (weightings.Colour x y) f = let e = f.1 in absurd cc
lines_are form k m (weightings.Comb p a r b) f = let e = f.1 in absurd cc
lines_are form k m (weightings.Table t) f = let e = f.1 in absurd cc
lines_are form k m (weightings.Lines t) f =
    let e = f.1 in
    let p : length t.columns ≡ k = cc in
    let q : length t.rows ≡ m = cc in
    let w = are_weights (half (length t.rows) * half (length t.columns)) t.quarter in
    let g = both_true (has_tables form && are_counts (length t.columns) (length t.rows)) (are_lines t.columns && (are_lines t.rows && w)) f.0 in
    let h1 = both_true (are_lines t.columns) (are_lines t.rows && w) g.1 in
    let h2 = both_true (are_lines t.rows) w h1.1 in
    let c = both_true (list_all (λ line. leb line 3999) t.columns) (are_rising t.columns) h1.0 in
    let r = both_true (list_all (λ line. leb line 3999) t.rows) (are_rising t.rows) h2.0 in
    let h = both_true (eqb (length t.quarter) (half (length t.rows) * half (length t.columns))) (list_all (λ w. leb w 100000) t.quarter) h2.1 in
    record {
      columns = ((p, c.0), c.1);
      rows = ((q, r.0), r.1);
      quarter = (eqb-true (length t.quarter) (half (length t.rows) * half (length t.columns)) h.0 ∙ ap (λ (n : ℕ). half n * half (length t.columns)) q ∙ ap (λ (n : ℕ). half m * half n) p, h.1);
    }

line_table : List ℕ → List ℕ → List ℕ → Lines
line_table columns rows quarter = record { columns = columns; rows = rows; quarter = quarter }

-- the table of such lines, and nothing else
abbrev IsLinesOf : Form → ℕ → ℕ → List ℕ → List ℕ → List ℕ → Weighting → Type 0
IsLinesOf form k m columns rows quarter w = ((IsOf form (weight_lines.Lines k m) w × (columns_key w ≡ columns)) × (rows_key w ≡ rows)) × (cells_key w ≡ quarter)

lines_is : (form : Form) (k m : ℕ) (columns rows quarter : List ℕ) (w : Weighting) → IsLinesOf form k m columns rows quarter w → w ≡ weightings.Lines (record { columns = columns; rows = rows; quarter = quarter })
unfolding line_table
lines_is form k m columns rows quarter weightings.Area f = let e = f.0.0.0.1 in absurd cc
lines_is form k m columns rows quarter (weightings.Colour x y) f = let e = f.0.0.0.1 in absurd cc
lines_is form k m columns rows quarter (weightings.Comb p a r b) f = let e = f.0.0.0.1 in absurd cc
lines_is form k m columns rows quarter (weightings.Table t) f = let e = f.0.0.0.1 in absurd cc
lines_is form k m columns rows quarter (weightings.Lines t) f =
    ap (λ (cs : List ℕ). weightings.Lines (line_table cs t.rows t.quarter)) f.0.0.1 ∙ ap (λ (rs : List ℕ). weightings.Lines (line_table columns rs t.quarter)) f.0.1 ∙ ap (λ (qs : List ℕ). weightings.Lines (line_table columns rows qs)) f.1

lines_good : (form : Form) (k m : ℕ) (columns rows quarter : List ℕ) → GoodLine form (weight_lines.Lines k m) → AreSoMany k columns → AreSoMany m rows → AreCells (half k) (half m) quarter
    → IsOf form (weight_lines.Lines k m) (weightings.Lines (record { columns = columns; rows = rows; quarter = quarter }))
lines_good form k m columns rows quarter good c r q =
    let head : (has_tables form && are_counts (length columns) (length rows)) ≡ true = rw (c.0.0, r.0.0) good in
    let first : are_lines columns ≡ true = rw (c.0.1, c.1) refl in
    let second : are_lines rows ≡ true = rw (r.0.1, r.1) refl in
    let count : length quarter ≡ half (length rows) * half (length columns) = rw (c.0.0, r.0.0) q.0 in
    let weights : are_weights (half (length rows) * half (length columns)) quarter ≡ true = rw (eq-eqb (length quarter) (half (length rows) * half (length columns)) count, q.1) refl in
    (rw (head, first, second, weights) refl, ap (λ (n : ℕ). weight_lines.Lines n (length rows)) c.0.0 ∙ ap (λ (n : ℕ). weight_lines.Lines k n) r.0.0)

-- the lines behind the first
abbrev line_texts : ℕ → ℕ → Weighting → List (List ℕ)
line_texts k m w = spaced (lines_words (codes "columns") (columns_key w)) ∷ spaced (lines_words (codes "rows") (rows_key w)) ∷ (row_lines (half k) (half m) (cells_key w) ++ [])

lines_texts : (form : Form) (k m : ℕ) (w : Weighting) → IsOf form (weight_lines.Lines k m) w → rows_of w ≡ line_texts k m w
lines_texts form k m weightings.Area f = let e = f.1 in absurd cc
lines_texts form k m (weightings.Colour x y) f = let e = f.1 in absurd cc
lines_texts form k m (weightings.Comb p a r b) f = let e = f.1 in absurd cc
lines_texts form k m (weightings.Table t) f = let e = f.1 in absurd cc
lines_texts form k m (weightings.Lines t) f =
    let e = f.1 in
    let p : length t.columns ≡ k = cc in
    let q : length t.rows ≡ m = cc in
    let same : row_lines (half (length t.columns)) (half (length t.rows)) t.quarter ≡ row_lines (half k) (half m) t.quarter ++ [] = ap (λ (n : ℕ). row_lines (half n) (half (length t.rows)) t.quarter) p ∙ ap (λ (n : ℕ). row_lines (half k) (half n) t.quarter) q ∙ sym (append-nil (row_lines (half k) (half m) t.quarter)) in
    ap (λ (ls : List (List ℕ)). spaced (lines_words (codes "columns") t.columns) ∷ spaced (lines_words (codes "rows") t.rows) ∷ ls) same

-- the weights, where the columns and the rows are known
quarter_reads : (form : Form) (k m : ℕ) (columns rows : List ℕ) → GoodLine form (weight_lines.Lines k m) → AreSoMany k columns → AreSoMany m rows
    → Reads (λ w. row_lines (half k) (half m) (cells_key w) ++ []) (λ w. (IsOf form (weight_lines.Lines k m) w × (columns_key w ≡ columns)) × (rows_key w ≡ rows))
    (λ ls. rows_from (half k) (half m) ls >>= λ q. Ok (weightings.Lines (record { columns = columns; rows = rows; quarter = q.0 }), q.1))
quarter_reads form k m columns rows good c r =
    reads_then (row_lines (half k) (half m)) (AreCells (half k) (half m)) (rows_from (half k) (half m)) cells_key (λ w. []) (λ w. (IsOf form (weight_lines.Lines k m) w × (columns_key w ≡ columns)) × (rows_key w ≡ rows))
    (λ quarter ls. Ok (weightings.Lines (record { columns = columns; rows = rows; quarter = quarter }), ls))
    (rows_read (half k) (half m))
    (λ quarter q. reads_none (IsLinesOf form k m columns rows quarter) (weightings.Lines (record { columns = columns; rows = rows; quarter = quarter })) (((lines_good form k m columns rows quarter good c r q, refl), refl), refl) (lines_is form k m columns rows quarter))
    (λ w f. (lines_are form k m w f.0.0).quarter)

-- the rows and the weights, where the columns are known
rows_reads : (form : Form) (k m : ℕ) (columns : List ℕ) → GoodLine form (weight_lines.Lines k m) → m ≤ 4000 → AreSoMany k columns
    → Reads (λ w. spaced (lines_words (codes "rows") (rows_key w)) ∷ (row_lines (half k) (half m) (cells_key w) ++ [])) (λ w. IsOf form (weight_lines.Lines k m) w × (columns_key w ≡ columns))
    (λ ls. first_by (lines_of (codes "rows") m) ls >>= λ r. rows_from (half k) (half m) r.1 >>= λ q. Ok (weightings.Lines (record { columns = columns; rows = r.0; quarter = q.0 }), q.1))
rows_reads form k m columns good short c =
    reads_then (λ rows. spaced (lines_words (codes "rows") rows) ∷ []) (AreSoMany m) (first_by (lines_of (codes "rows") m)) rows_key (λ w. row_lines (half k) (half m) (cells_key w) ++ []) (λ w. IsOf form (weight_lines.Lines k m) w × (columns_key w ≡ columns))
    (λ rows ls. rows_from (half k) (half m) ls >>= λ q. Ok (weightings.Lines (record { columns = columns; rows = rows; quarter = q.0 }), q.1))
    (by_line (λ rows. spaced (lines_words (codes "rows") rows)) (AreSoMany m) (lines_of (codes "rows") m) (lines_read (codes "rows") m refl) (places 0 m) (places_are_lines m short))
    (λ rows r. quarter_reads form k m columns rows good c r)
    (λ w f. (lines_are form k m w f.0).rows)

lines_behind : (form : Form) (k m : ℕ) → GoodLine form (weight_lines.Lines k m) → Reads rows_of (IsOf form (weight_lines.Lines k m)) (weighting_of (weight_lines.Lines k m))
unfolding weighting_of
lines_behind form k m good =
    let s = has_counts form k m good in
    reads_as (line_texts k m) rows_of (IsOf form (weight_lines.Lines k m)) (IsOf form (weight_lines.Lines k m))
    (λ ls. first_by (lines_of (codes "columns") k) ls >>= λ c. first_by (lines_of (codes "rows") m) c.1 >>= λ r. rows_from (half k) (half m) r.1 >>= λ q. Ok (weightings.Lines (record { columns = c.0; rows = r.0; quarter = q.0 }), q.1)) (weighting_of (weight_lines.Lines k m))
    (reads_then (λ columns. spaced (lines_words (codes "columns") columns) ∷ []) (AreSoMany k) (first_by (lines_of (codes "columns") k)) columns_key (λ w. spaced (lines_words (codes "rows") (rows_key w)) ∷ (row_lines (half k) (half m) (cells_key w) ++ [])) (IsOf form (weight_lines.Lines k m))
    (λ columns ls. first_by (lines_of (codes "rows") m) ls >>= λ r. rows_from (half k) (half m) r.1 >>= λ q. Ok (weightings.Lines (record { columns = columns; rows = r.0; quarter = q.0 }), q.1))
    (by_line (λ columns. spaced (lines_words (codes "columns") columns)) (AreSoMany k) (lines_of (codes "columns") k) (lines_read (codes "columns") k refl) (places 0 k) (places_are_lines k s.short_columns))
    (λ columns c. rows_reads form k m columns good s.short_rows c)
    (λ w f. (lines_are form k m w f).columns))
    (λ w f. f) (λ w f. f) (lines_texts form k m) (λ ls. refl)

-- the lines behind the first, where that is known
rest_reads : (form : Form) (h : WeightLine) → GoodLine form h → Reads rows_of (IsOf form h) (weighting_of h)
unfolding weighting_of
rest_reads form weight_lines.Area good =
    reads_as (λ w. []) rows_of (IsOf form weight_lines.Area) (IsOf form weight_lines.Area) (λ ls. Ok (weightings.Area, ls)) (weighting_of weight_lines.Area)
    (reads_none (IsOf form weight_lines.Area) weightings.Area (refl, refl) (area_is form)) (λ w f. f) (λ w f. f) (λ w f. ap rows_of (area_is form w f)) (λ ls. refl)
rest_reads form (weight_lines.Colour k c) good =
    reads_as (λ w. []) rows_of (IsOf form (weight_lines.Colour k c)) (IsOf form (weight_lines.Colour k c)) (λ ls. Ok (weightings.Colour k c, ls)) (weighting_of (weight_lines.Colour k c))
    (reads_none (IsOf form (weight_lines.Colour k c)) (weightings.Colour k c) (good, refl) (colour_is form k c)) (λ w f. f) (λ w f. f) (λ w f. ap rows_of (colour_is form k c w f)) (λ ls. refl)
rest_reads form (weight_lines.Comb p a r b) good =
    reads_as (λ w. []) rows_of (IsOf form (weight_lines.Comb p a r b)) (IsOf form (weight_lines.Comb p a r b)) (λ ls. Ok (weightings.Comb p a r b, ls)) (weighting_of (weight_lines.Comb p a r b))
    (reads_none (IsOf form (weight_lines.Comb p a r b)) (weightings.Comb p a r b) (good, refl) (comb_is form p a r b)) (λ w f. f) (λ w f. f) (λ w f. ap rows_of (comb_is form p a r b w f)) (λ ls. refl)
rest_reads form (weight_lines.Table x y) good =
    reads_as (λ w. row_lines x y (cells_key w) ++ []) rows_of (IsOf form (weight_lines.Table x y)) (IsOf form (weight_lines.Table x y))
    (λ ls. rows_from x y ls >>= λ cells. Ok (weightings.Table (record { x_side = x; y_side = y; cells = cells.0 }), cells.1)) (weighting_of (weight_lines.Table x y))
    (reads_then (row_lines x y) (AreCells x y) (rows_from x y) cells_key (λ w. []) (IsOf form (weight_lines.Table x y)) (λ cells ls. Ok (weightings.Table (record { x_side = x; y_side = y; cells = cells }), ls))
    (rows_read x y)
    (λ cells f. reads_none (λ w. IsOf form (weight_lines.Table x y) w × (cells_key w ≡ cells)) (weightings.Table (record { x_side = x; y_side = y; cells = cells })) ((table_good form x y cells good f, refl), refl) (table_is form x y cells))
    (table_cells form x y))
    (λ w f. f) (λ w f. f) (table_rows form x y) (λ ls. refl)
rest_reads form (weight_lines.Lines k m) good = lines_behind form k m good

first_words : (w : Weighting) → weighting_words w ≡ line_words (weight_line w)
first_words weightings.Area = refl
first_words (weightings.Colour k c) = refl
first_words (weightings.Comb p a r b) = refl
first_words (weightings.Table t) = refl
first_words (weightings.Lines t) = refl

pub weighting_reads : (form : Form) → Reads weighting_lines (GoodWeighting form) (weighting_from form)
unfolding weighting_from
weighting_reads form =
    reads_as (λ w. spaced (line_words (weight_line w)) ∷ rows_of w) weighting_lines (GoodWeighting form) (GoodWeighting form)
    (λ ls. first_by (weight_line_of form) ls >>= λ h. weighting_of h.0 h.1) (weighting_from form)
    (reads_then (λ h. spaced (line_words h) ∷ []) (GoodLine form) (first_by (weight_line_of form)) weight_line rows_of (GoodWeighting form) weighting_of
    (by_line (λ h. spaced (line_words h)) (GoodLine form) (weight_line_of form) (weight_line_reads form) weight_lines.Area refl)
    (rest_reads form) (good_line form))
    (λ w f. f) (λ w f. f) (λ w f. ap (λ (ws : List (List ℕ)). spaced ws ∷ rows_of w) (first_words w)) (λ ls. refl)

-- ---- no line has an end inside, and there are few

rows_plain : (form : Form) (w : Weighting) → GoodWeighting form w → AllByRecursion IsPlain (rows_of w)
rows_plain form weightings.Area f = tt
rows_plain form (weightings.Colour k c) f = tt
rows_plain form (weightings.Comb p a r b) f = tt
rows_plain form (weightings.Table t) f = row_lines_plain t.x_side t.y_side t.cells (table_cells form t.x_side t.y_side (weightings.Table t) (f, refl)).1
rows_plain form (weightings.Lines t) f =
    let s = lines_are form (length t.columns) (length t.rows) (weightings.Lines t) (f, refl) in (
      plain_spaced (lines_words (codes "columns") t.columns) (lines_solid (codes "columns") t.columns refl s.columns.0.1),
      (plain_spaced (lines_words (codes "rows") t.rows) (lines_solid (codes "rows") t.rows refl s.rows.0.1), row_lines_plain (half (length t.columns)) (half (length t.rows)) t.quarter s.quarter.1),
    )

pub weighting_plain : (form : Form) (w : Weighting) → GoodWeighting form w → AllByRecursion IsPlain (weighting_lines w)
weighting_plain form w f =
    let first : IsPlain (spaced (line_words (weight_line w))) = plain_spaced (line_words (weight_line w)) (weight_line_solid form (weight_line w) (good_line form w f)) in
    (subst (λ (ws : List (List ℕ)). IsPlain (spaced ws)) (sym (first_words w)) first, rows_plain form w f)

-- the sides of a table that has a text
pub record HasSides (x y : ℕ) : Type 0 where
  pub some_x : 1 ≤ x
  pub short_x : x ≤ 4000
  pub some_y : 1 ≤ y
  pub short_y : y ≤ 4000
  pub few : x * y ≤ 40000

pub has_sides : (form : Form) (x y : ℕ) → GoodLine form (weight_lines.Table x y) → HasSides x y
has_sides form x y good =
    let h0 = both_true (has_tables form) (are_sides x y) good in
    let h1 = both_true (leb 1 x) (leb x 4000 && (leb 1 y && (leb y 4000 && leb (x * y) 40000))) h0.1 in
    let h2 = both_true (leb x 4000) (leb 1 y && (leb y 4000 && leb (x * y) 40000)) h1.1 in
    let h3 = both_true (leb 1 y) (leb y 4000 && leb (x * y) 40000) h2.1 in
    let h4 = both_true (leb y 4000) (leb (x * y) 40000) h3.1 in
    record { some_x = leb-true 1 x h1.0; short_x = leb-true x 4000 h2.0; some_y = leb-true 1 y h3.0; short_y = leb-true y 4000 h4.0; few = leb-true (x * y) 40000 h4.1 }

pub few_rows : (form : Form) (w : Weighting) → GoodWeighting form w → length (rows_of w) ≤ 4000
few_rows form weightings.Area f = omega arith
few_rows form (weightings.Colour k c) f = omega arith
few_rows form (weightings.Comb p a r b) f = omega arith
few_rows form (weightings.Table t) f =
    let s = has_sides form t.x_side t.y_side (good_line form (weightings.Table t) f) in
    let y = s.short_y in
    omega (arith, length-row_lines t.x_side t.y_side t.cells)
few_rows form (weightings.Lines t) f =
    let s = has_counts form (length t.columns) (length t.rows) (good_line form (weightings.Lines t) f) in
    let y = s.short_rows in
    omega (arith, length-row_lines (half (length t.columns)) (half (length t.rows)) t.quarter)

-- ---- what a table that was read is

pub weight_line_good : (form : Form) (ls : List (List ℕ)) (h : WeightLine) (rest : List (List ℕ)) → first_by (weight_line_of form) ls ≡ Ok (h, rest) → GoodLine form h
weight_line_good form ls h rest e =
    ((by_line (λ h. spaced (line_words h)) (GoodLine form) (weight_line_of form) (weight_line_reads form) weight_lines.Area refl).takes ls h rest e).0

pub is_table_read : (form : Form) (x y : ℕ) (ls : List (List ℕ)) (cells : List ℕ) (rest : List (List ℕ)) → GoodLine form (weight_lines.Table x y) → rows_from x y ls ≡ Ok (cells, rest) → IsTable x y cells
is_table_read form x y ls cells rest good e =
    let f : AreCells x y cells = ((rows_read x y).takes ls cells rest e).0 in
    let s = has_sides form x y good in
    record {
      some_x = s.some_x;
      some_y = s.some_y;
      few = s.few;
      count = f.0 ∙ mul_comm y x;
      light = λ i d l. leb-true _ _ (AllPass-from_list_all (λ w. leb w 100000) cells f.1 i d l);
    }

pub is_line_table_read : (form : Form) (k m : ℕ) (ls ms ns rest : List (List ℕ)) (columns rows quarter : List ℕ) → GoodLine form (weight_lines.Lines k m)
    → first_by (lines_of (codes "columns") k) ls ≡ Ok (columns, ms) → first_by (lines_of (codes "rows") m) ms ≡ Ok (rows, ns) → rows_from (half k) (half m) ns ≡ Ok (quarter, rest)
    → IsLineTable (record { columns = columns; rows = rows; quarter = quarter })
is_line_table_read form k m ls ms ns rest columns rows quarter good ec er eq =
    let s = has_counts form k m good in
    let c = ((by_line (λ lines. spaced (lines_words (codes "columns") lines)) (AreSoMany k) (lines_of (codes "columns") k) (lines_read (codes "columns") k refl) (places 0 k) (places_are_lines k s.short_columns)).takes ls columns ms ec).0 in
    let r = ((by_line (λ lines. spaced (lines_words (codes "rows") lines)) (AreSoMany m) (lines_of (codes "rows") m) (lines_read (codes "rows") m refl) (places 0 m) (places_are_lines m s.short_rows)).takes ms rows ns er).0 in
    let q : AreCells (half k) (half m) quarter = ((rows_read (half k) (half m)).takes ns quarter rest eq).0 in
    let few = s.few in
    let count : length quarter ≡ half (length rows) * half (length columns) = rw (c.0.0, r.0.0) q.0 in
    record {
      columns = are_axis_lines k columns s.some_columns c;
      rows = are_axis_lines m rows s.some_rows r;
      count = count;
      few = omega (arith, q.0, mul_comm (half k) (half m));
      light = λ i d l. leb-true _ _ (AllPass-from_list_all (λ w. leb w 100000) quarter q.1 i d l);
    }
