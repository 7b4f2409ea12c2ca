-- The text of a certificate, piece by piece.
use Rattle.std.proofs.Common.{◌≡◌, ℕ, suc, zero, ◌+◌, ◌*◌, ◌<◌, ◌≤◌, List, [], ◌∷◌, ◌++◌, length, map, get_or, take, drop, sym, ap, ◌∙◌, append_assoc, arith, add-one}
use Rattle.std.specs.Prelude.{codes, decimal}
use Rattle.std.specs.List.{flat_map}
use Rattle.std.proofs.lemmas.List.{append-nil, get_or-drop, length-drop, drop-drop, map_more}
use Rattle.std.proofs.lemmas.List.Concat.{flat_map-append}
use Rattle.std.proofs.lemmas.Nat.{mul-le}
use Rattle.texts.specs.Lines.{ended, spaced, text_of}
use Rattle.weightings.specs.declared.kinds.Weighting.{Weighting}
use Rattle.weightings.specs.declared.certs.Mark.{Mark}
use Rattle.weightings.specs.declared.certs.StripCut.{StripCut}
use Rattle.weightings.specs.declared.certs.Cert.TheVariants as certs
use Rattle.cert_text.specs.Text.{weighting_lines, row_words, row_lines, mark_byte, tree_line, cut_words, cut_lines, cert_text, cert_lines}

pub one_line : (line : List ℕ) → text_of (line ∷ []) ≡ ended line
one_line line = append-nil (ended line)

-- one line more behind others
line_more : (start out new : List ℕ) (lines all : List (List ℕ)) (line : List ℕ) → out ≡ start ++ text_of lines → new ≡ out ++ ended line → all ≡ lines ++ line ∷ [] → new ≡ start ++ text_of all
line_more start out new lines all line before now e =
    now ∙ ap (λ (t : List ℕ). t ++ ended line) before ∙ append_assoc start (text_of lines) (ended line) ∙ ap (λ (t : List ℕ). start ++ t) (sym (ap text_of e ∙ flat_map-append ended lines (line ∷ []) ∙ ap (λ (t : List ℕ). text_of lines ++ t) (one_line line)))

-- ---- cuts

cut_lines-more : (h i : ℕ) (cs : List StripCut) (d : StripCut) → i < length cs → cut_lines h (take (suc i) cs) ≡ cut_lines h (take i cs) ++ spaced (cut_words (h + i) (get_or cs i d)) ∷ []
cut_lines-more h i [] d lt = absurd (omega arith)
cut_lines-more h zero (x ∷ cs) d lt = ap (λ (n : ℕ). spaced (cut_words n x) ∷ []) (omega arith)
cut_lines-more h (suc i) (x ∷ cs) d lt =
    let n : (h + 1) + i ≡ h + suc i = omega arith in
    ap (λ (t : List (List ℕ)). spaced (cut_words h x) ∷ t) (cut_lines-more (h + 1) i cs d (omega arith) ∙ ap (λ (m : ℕ). cut_lines (h + 1) (take i cs) ++ spaced (cut_words m (get_or cs i d)) ∷ []) n)

pub cuts_more : (start out new : List ℕ) (i : ℕ) (cs : List StripCut) (d : StripCut) → i < length cs → out ≡ start ++ text_of (cut_lines 0 (take i cs)) → new ≡ out ++ ended (spaced (cut_words i (get_or cs i d))) → new ≡ start ++ text_of (cut_lines 0 (take (i + 1) cs))
cuts_more start out new i cs d lt before now =
    let z : 0 + i ≡ i = omega arith in
    line_more start out new (cut_lines 0 (take i cs)) (cut_lines 0 (take (i + 1) cs)) (spaced (cut_words i (get_or cs i d))) before now (ap (λ (n : ℕ). cut_lines 0 (take n cs)) (add-one i) ∙ cut_lines-more 0 i cs d lt ∙ ap (λ (n : ℕ). cut_lines 0 (take i cs) ++ spaced (cut_words n (get_or cs i d)) ∷ []) z)

-- ---- rows

row_lines-more : (x_side i : ℕ) (cells : List ℕ) → row_lines x_side (suc i) cells ≡ row_lines x_side i cells ++ spaced (row_words (take x_side (drop (i * x_side) cells))) ∷ []
row_lines-more x_side zero cells =
    let z : 0 ≡ 0 * x_side = omega arith in
    ap (λ (n : ℕ). spaced (row_words (take x_side (drop n cells))) ∷ []) z
row_lines-more x_side (suc i) cells =
    let n : x_side + i * x_side ≡ suc i * x_side = omega arith in
    ap (λ (t : List (List ℕ)). spaced (row_words (take x_side cells)) ∷ t) (row_lines-more x_side i (drop x_side cells) ∙ ap (λ (cs : List ℕ). row_lines x_side i (drop x_side cells) ++ spaced (row_words (take x_side cs)) ∷ []) (drop-drop (i * x_side) x_side cells ∙ ap (λ (k : ℕ). drop k cells) n))

pub rows_more : (start out new : List ℕ) (x_side i : ℕ) (cells : List ℕ) → out ≡ start ++ text_of (row_lines x_side i cells) → new ≡ out ++ ended (spaced (row_words (take x_side (drop (i * x_side) cells)))) → new ≡ start ++ text_of (row_lines x_side (i + 1) cells)
rows_more start out new x_side i cells before now =
    line_more start out new (row_lines x_side i cells) (row_lines x_side (i + 1) cells) (spaced (row_words (take x_side (drop (i * x_side) cells)))) before now (ap (λ (n : ℕ). row_lines x_side n cells) (add-one i) ∙ row_lines-more x_side i cells)

-- what is left behind one row more
pub rest_more : (x_side i : ℕ) (cells rest after : List ℕ) → rest ≡ drop (i * x_side) cells → after ≡ drop x_side rest → after ≡ drop ((i + 1) * x_side) cells
rest_more x_side i cells rest after before now =
    let n : i * x_side + x_side ≡ (i + 1) * x_side = omega arith in
    now ∙ ap (λ (t : List ℕ). drop x_side t) before ∙ drop-drop x_side (i * x_side) cells ∙ ap (λ (k : ℕ). drop k cells) n

-- the weights of a row, each behind a space
abbrev pub behind_spaces : List ℕ → List ℕ
behind_spaces cells = spaced ([] ∷ map decimal cells)

cell_more : (xs : List ℕ) (i : ℕ) → i < length xs → behind_spaces (take (i + 1) xs) ≡ behind_spaces (take i xs) ++ 32 ∷ decimal (get_or xs i 0)
cell_more xs i lt =
    ap (flat_map (λ v. 32 ∷ v)) (map_more decimal xs i 0 lt) ∙ flat_map-append (λ v. 32 ∷ v) (map decimal (take i xs)) (decimal (get_or xs i 0) ∷ []) ∙ ap (λ (t : List ℕ). behind_spaces (take i xs) ++ t) (append-nil (32 ∷ decimal (get_or xs i 0)))

-- one number more behind a space
pub numbers_more : (start out new : List ℕ) (i : ℕ) (xs : List ℕ) → i < length xs → out ≡ start ++ behind_spaces (take i xs) → new ≡ out ++ 32 ∷ decimal (get_or xs i 0) → new ≡ start ++ behind_spaces (take (i + 1) xs)
numbers_more start out new i xs lt before now =
    now ∙ ap (λ (t : List ℕ). t ++ 32 ∷ decimal (get_or xs i 0)) before ∙ append_assoc start (behind_spaces (take i xs)) (32 ∷ decimal (get_or xs i 0)) ∙ ap (λ (t : List ℕ). start ++ t) (sym (cell_more xs i lt))

pub cells_more : (start out new : List ℕ) (x_side y_side y i : ℕ) (cells : List ℕ) → i < x_side → y < y_side → length cells ≡ x_side * y_side → out ≡ start ++ behind_spaces (take i (drop (y * x_side) cells)) → new ≡ out ++ 32 ∷ decimal (get_or cells (y * x_side + i) 0) → new ≡ start ++ behind_spaces (take (i + 1) (drop (y * x_side) cells))
cells_more start out new x_side y_side y i cells lt row count before now =
    let xs = drop (y * x_side) cells in
    let room : suc y * x_side ≤ y_side * x_side = mul-le (suc y) x_side y_side x_side (omega arith) (omega arith) in
    let here : i < length (drop (y * x_side) cells) = omega (arith, length-drop (y * x_side) cells) in
    now ∙ ap (λ (t : List ℕ). t ++ 32 ∷ decimal (get_or cells (y * x_side + i) 0)) before ∙ append_assoc start (behind_spaces (take i xs)) (32 ∷ decimal (get_or cells (y * x_side + i) 0)) ∙ ap (λ (t : List ℕ). start ++ t) (ap (λ (n : ℕ). behind_spaces (take i xs) ++ 32 ∷ decimal n) (sym (get_or-drop (y * x_side) cells i 0)) ∙ sym (cell_more xs i here))

-- ---- the first line of a table on lines

pub counts_text : (k m : ℕ) (behind : List ℕ) → (codes "weighting lines " ++ decimal k) ++ ((codes " " ++ decimal m) ++ (codes "\n" ++ behind)) ≡ ended (spaced (codes "weighting" ∷ codes "lines" ∷ decimal k ∷ decimal m ∷ [])) ++ behind
counts_text k m behind = simp append_assoc

-- ---- marks

pub marks_more : (start out new : List ℕ) (i : ℕ) (marks : List Mark) (d : Mark) → i < length marks → out ≡ start ++ map mark_byte (take i marks) → new ≡ out ++ mark_byte (get_or marks i d) ∷ [] → new ≡ start ++ map mark_byte (take (i + 1) marks)
marks_more start out new i marks d lt before now =
    now ∙ ap (λ (t : List ℕ). t ++ mark_byte (get_or marks i d) ∷ []) before ∙ append_assoc start (map mark_byte (take i marks)) (mark_byte (get_or marks i d) ∷ []) ∙ ap (λ (t : List ℕ). start ++ t) (sym (map_more mark_byte marks i d lt))

-- ---- whole certificates

pub weighted_text : (w : Weighting) (t : List Mark) → codes "cert weighted\n" ++ (text_of (weighting_lines w) ++ ended (tree_line t)) ≡ cert_text (certs.Weighted w t)
unfolding cert_lines
weighted_text w t =
    ap (λ (x : List ℕ). codes "cert weighted\n" ++ x) (ap (λ (x : List ℕ). text_of (weighting_lines w) ++ x) (sym (one_line (tree_line t))) ∙ sym (flat_map-append ended (weighting_lines w) (tree_line t ∷ [])))

pub strip_text : (cs : List StripCut) → (codes "cert strip " ++ decimal (length cs)) ++ (codes "\n" ++ text_of (cut_lines 0 cs)) ≡ cert_text (certs.Strip cs)
unfolding cert_lines
strip_text cs = simp append_assoc
