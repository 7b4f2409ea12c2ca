-- Reading a certificate's lines, each by itself.
use Rattle.std.specs.Prelude.{ℕ, List, length, map, codes, Option, Some, None, Bool, true, ◌&&◌, ◌||◌, ◌==◌, nat_le, nat_lt, take, drop, if◌then◌else◌}
use Rattle.std.specs.List.{list_all}
use Rattle.std.specs.Str.{bytes_eq}
use Rattle.texts.specs.Lines.{words_of}
use Rattle.texts.specs.Words.{◌>>=◌, word_by, behind, number_up_to, this_number, numbers_by, all_words}
use Rattle.weightings.specs.declared.certs.Mark.{Mark}
use Rattle.weightings.specs.declared.certs.Mark.TheVariants.{Branch, Leaf}
use Rattle.weightings.specs.declared.certs.StripCut.{StripCut}
use Rattle.weightings.specs.declared.certs.StripCut.TheVariants as cuts
use Rattle.cert_text.specs.Forms.{most_cuts, has_tables}
use Rattle.cert_text.specs.Ranges.{are_sides, are_counts, are_rising}
use Rattle.cert_text.specs.declared.forms.Form.{Form}
use Rattle.cert_text.specs.declared.words.Kind.{Kind}
use Rattle.cert_text.specs.declared.words.Kind.TheVariants as kinds
use Rattle.cert_text.specs.declared.words.WeightLine.{WeightLine}
use Rattle.cert_text.specs.declared.words.WeightLine.TheVariants as weight_lines
use Rattle.cert_text.specs.declared.words.CutKind.{CutKind}
use Rattle.cert_text.specs.declared.words.CutKind.TheVariants as cut_kinds
use Rattle.cert_text.specs.declared.words.HeadKind.{HeadKind}
use Rattle.cert_text.specs.declared.words.HeadKind.TheVariants as head_kinds
use Rattle.cert_text.specs.declared.words.Head.{Head}
use Rattle.cert_text.specs.declared.words.Head.TheVariants as heads

-- the value, where it passes
abbrev pub checked : {A : Type 0} → A → Bool → List (List ℕ) → Option (A × List (List ℕ))
checked a ok rest = if ok then Some (a, rest) else None

abbrev pub kind_of : List ℕ → Option Kind
kind_of w = if bytes_eq w (codes "area") then Some kinds.Area else if bytes_eq w (codes "colour") then Some kinds.Colour else if bytes_eq w (codes "comb") then Some kinds.Comb else if bytes_eq w (codes "table") then Some kinds.Table else if bytes_eq w (codes "lines") then Some kinds.Lines else None

-- the first line of a weighting within the form's ranges
abbrev pub is_weight_line : Form → WeightLine → Bool
is_weight_line form weight_lines.Area = true
is_weight_line form (weight_lines.Colour k c) = nat_le 1 k && (nat_le k 4000 && nat_lt c k)
is_weight_line form (weight_lines.Comb p a r b) = nat_le 1 p && (nat_le p 4000 && (nat_lt a p && (nat_le 1 r && (nat_le r 4000 && nat_lt b r))))
is_weight_line form (weight_lines.Table x y) = has_tables form && are_sides x y
is_weight_line form (weight_lines.Lines k m) = has_tables form && are_counts k m

unfoldable pub weight_line_of_kind : Form → Kind → List (List ℕ) → Option (WeightLine × List (List ℕ))
weight_line_of_kind form kinds.Area ws = Some (weight_lines.Area, ws)
weight_line_of_kind form kinds.Colour ws = do
  k ← word_by (number_up_to 4000) ws
  c ← word_by (number_up_to 4000) k.1
  checked (weight_lines.Colour k.0 c.0) (is_weight_line form (weight_lines.Colour k.0 c.0)) c.1
weight_line_of_kind form kinds.Comb ws = do
  p ← word_by (number_up_to 4000) ws
  a ← word_by (number_up_to 4000) p.1
  r ← word_by (number_up_to 4000) a.1
  b ← word_by (number_up_to 4000) r.1
  checked (weight_lines.Comb p.0 a.0 r.0 b.0) (is_weight_line form (weight_lines.Comb p.0 a.0 r.0 b.0)) b.1
weight_line_of_kind form kinds.Table ws = do
  x ← word_by (number_up_to 4000) ws
  y ← word_by (number_up_to 4000) x.1
  checked (weight_lines.Table x.0 y.0) (is_weight_line form (weight_lines.Table x.0 y.0)) y.1
weight_line_of_kind form kinds.Lines ws = do
  k ← word_by (number_up_to 4000) ws
  m ← word_by (number_up_to 4000) k.1
  checked (weight_lines.Lines k.0 m.0) (is_weight_line form (weight_lines.Lines k.0 m.0)) m.1

unfoldable pub weight_line_at : Form → List (List ℕ) → Option (WeightLine × List (List ℕ))
weight_line_at form ws = do
  rest ← behind (codes "weighting") ws
  kind ← word_by kind_of rest
  weight_line_of_kind form kind.0 kind.1

unfoldable pub weight_line_of : Form → List ℕ → Option WeightLine
weight_line_of form line = all_words (weight_line_at form (words_of line))

unfoldable pub row_at : ℕ → List (List ℕ) → Option (List ℕ × List (List ℕ))
row_at x_side ws = do
  rest ← behind (codes "row") ws
  numbers_by 100000 x_side rest

unfoldable pub row_of : ℕ → List ℕ → Option (List ℕ)
row_of x_side line = all_words (row_at x_side (words_of line))

-- so many rising numbers below 4,000, behind this word
unfoldable pub lines_at : List ℕ → ℕ → List (List ℕ) → Option (List ℕ × List (List ℕ))
lines_at name count ws = do
  rest ← behind name ws
  lines ← numbers_by 3999 count rest
  checked lines.0 (are_rising lines.0) lines.1

unfoldable pub lines_of : List ℕ → ℕ → List ℕ → Option (List ℕ)
lines_of name count line = all_words (lines_at name count (words_of line))

-- B and the full stop are marks
abbrev pub is_mark : ℕ → Bool
is_mark b = (b == 66) || (b == 46)

abbrev pub mark_of : ℕ → Mark
mark_of b = if b == 66 then Branch else Leaf

abbrev pub are_marks : List ℕ → Bool
are_marks bytes = nat_le 1 (length bytes) && (nat_le (length bytes) 500000 && list_all is_mark bytes)

unfoldable pub tree_of : List ℕ → Option (List Mark)
tree_of line = if bytes_eq (take 5 line) (codes "tree ") && are_marks (drop 5 line) then Some (map mark_of (drop 5 line)) else None

abbrev pub cut_kind_of : List ℕ → Option CutKind
cut_kind_of w = if bytes_eq w (codes "area") then Some cut_kinds.Area else if bytes_eq w (codes "x") then Some cut_kinds.X else if bytes_eq w (codes "y") then Some cut_kinds.Y else None

unfoldable pub cut_of_kind : CutKind → List (List ℕ) → Option (StripCut × List (List ℕ))
cut_of_kind cut_kinds.Area ws = Some (cuts.Area, ws)
cut_of_kind cut_kinds.X ws = do
  a ← word_by (number_up_to 4000) ws
  b ← word_by (number_up_to 4000) a.1
  q ← word_by (number_up_to 9999999999) b.1
  Some (cuts.X a.0 b.0 q.0, q.1)
cut_of_kind cut_kinds.Y ws = do
  a ← word_by (number_up_to 4000) ws
  b ← word_by (number_up_to 4000) a.1
  q ← word_by (number_up_to 9999999999) b.1
  Some (cuts.Y a.0 b.0 q.0, q.1)

unfoldable pub cut_at : ℕ → List (List ℕ) → Option (StripCut × List (List ℕ))
cut_at place ws = do
  rest ← behind (codes "cut") ws
  here ← word_by (this_number place) rest
  kind ← word_by cut_kind_of here.1
  cut_of_kind kind.0 kind.1

unfoldable pub cut_of : ℕ → List ℕ → Option StripCut
cut_of place line = all_words (cut_at place (words_of line))

abbrev pub head_kind_of : List ℕ → Option HeadKind
head_kind_of w = if bytes_eq w (codes "weighted") then Some head_kinds.Weighted else if bytes_eq w (codes "strip") then Some head_kinds.Strip else if bytes_eq w (codes "given-area") then Some head_kinds.GivenArea else None

unfoldable pub head_of_kind : Form → HeadKind → List (List ℕ) → Option (Head × List (List ℕ))
head_of_kind form head_kinds.Weighted ws = Some (heads.Weighted, ws)
head_of_kind form head_kinds.GivenArea ws = Some (heads.GivenArea, ws)
head_of_kind form head_kinds.Strip ws = do
  k ← word_by (number_up_to (most_cuts form)) ws
  checked (heads.Strip k.0) (nat_le 2 k.0) k.1

unfoldable pub head_at : Form → List (List ℕ) → Option (Head × List (List ℕ))
head_at form ws = do
  rest ← behind (codes "cert") ws
  kind ← word_by head_kind_of rest
  head_of_kind form kind.0 kind.1

unfoldable pub head_of : Form → List ℕ → Option Head
head_of form line = all_words (head_at form (words_of line))
