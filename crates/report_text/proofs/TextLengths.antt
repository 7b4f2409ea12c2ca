-- How long lines and texts are.
use Rattle.std.proofs.Common.{◌≡◌, ℕ, zero, suc, ◌+◌, ◌*◌, ◌≤◌, ◌<◌, List, [], ◌∷◌, ◌++◌, length, map, take, drop, refl, sym, ap, ◌∙◌, arith, true, Bool, leb, ltb, eqb}
use Rattle.std.specs.Prelude.{decimal, codes, ◌&&◌}
use Rattle.std.specs.List.{list_all, flat_map, AllByRecursion}
use Rattle.std.proofs.lemmas.Bool.{leb-true, ltb-true, eqb-true}
use Rattle.std.proofs.lemmas.List.{length-append, length-map, take-append-drop}
use Rattle.std.proofs.lemmas.List.Concat.{flat_map-cons, flat_map-append}
use Rattle.std.proofs.lemmas.List.Folds.{list_all-append}
use Rattle.std.proofs.lemmas.List.Elements.{recursion_from_All}
use Rattle.std.proofs.lemmas.Fmt.{length-decimal-le}
use Rattle.texts.specs.Lines.{ended, spaced, text_of}
use Rattle.texts.proofs.Parsers.{both_true}
use Rattle.std.proofs.Math.Nat.{mul_comm}
use Rattle.line_tables.specs.Lines.{Lines, half}
use Rattle.weightings.specs.declared.kinds.Weighting.{Weighting}
use Rattle.weightings.specs.declared.kinds.Weighting.TheVariants as weightings
use Rattle.weightings.specs.declared.certs.Mark.{Mark}
use Rattle.weightings.specs.declared.certs.StripCut.{StripCut}
use Rattle.weightings.specs.declared.certs.StripCut.TheVariants as cuts
use Rattle.weightings.specs.declared.certs.Cert.{Cert}
use Rattle.weightings.specs.declared.certs.Cert.TheVariants as certs
use Rattle.cert_text.specs.Ranges.{are_sides, are_counts, are_rising, are_lines, are_weights, is_weighting, is_tree, is_cut, InRange}
use Rattle.cert_text.specs.Text.{weighting_words, weighting_lines, rows_of, lines_words, row_words, row_lines, mark_byte, tree_line, cut_words, cut_lines, cert_lines, cert_text}
use Rattle.cert_text.specs.declared.forms.Form.TheVariants.{Two}
use Rattle.order_reader.specs.declared.fields.Field.{Field}
use Rattle.order_reader.specs.declared.fields.Field.TheVariants.{PalletX, PalletY, CaseX, CaseY, CaseZ, Weight, MaxHeight, MaxWeight, Contact, Support, Cut, Gap}
use Rattle.order_reader.specs.declared.faults.RowFault.{RowFault}
use Rattle.order_reader.specs.declared.faults.RowFault.TheVariants as faults
use Rattle.order_reader.specs.Columns.{column_name}
use Rattle.order_reader.proofs.OrderFacts.{passes}
use Rattle.listing_text.specs.Text.{layers_lines, answer_lines}
use Rattle.listing_text.proofs.LayerReaders.{few_layers}
use Rattle.listing_text.proofs.Lengths.{layers_short, answer_short}
use Rattle.plan_entries.specs.Ranges.{IsInRange}
use Rattle.plan_entries.specs.declared.entries.Status.{Status}
use Rattle.plan_entries.specs.declared.entries.Status.TheVariants.{Optimal, StillOpen}
use Rattle.plan_entries.specs.declared.entries.Plan.{Plan}
use Rattle.plan_entries.specs.declared.entries.Entry.{Entry}
use Rattle.plan_entries.specs.declared.entries.Entry.TheVariants.{Planned, Refused}
use Rattle.report_text.specs.LineTexts.{number_words, id_line, fault_line, order_words, reduced_words, count_words, bound_words, status_line, end_line}
use Rattle.report_text.specs.Text.{front_lines, entry_lines, entry_text}
use Rattle.report_text.specs.Reports.{entries_text, head_text, done_text, report_text, AreNumberedFrom, AreReported}
use Rattle.report_text.specs.Lengths.{IsTableOrTree, short_length, HasShortCert, HaveShortCerts}
use Rattle.report_text.proofs.EntryWords.{within_is}
use Rattle.report_text.proofs.OrderWords.{has_order}
use Rattle.report_text.proofs.EntryReaders.{PlanParts, plan_parts, number_good, answer_good}
use Rattle.report_text.proofs.EntryBytes.{id_short, count_few}

-- ---- lines

-- the bytes of words, each behind a space
abbrev behind_len : List (List ℕ) → ℕ
behind_len [] = 0
behind_len (w ∷ ws) = suc (length w) + behind_len ws

length-behind : (ws : List (List ℕ)) → length (flat_map (λ v. 32 ∷ v) ws) ≡ behind_len ws
length-behind [] = refl
length-behind (w ∷ ws) = ap length (flat_map-cons (λ (v : List ℕ). 32 ∷ v) w ws) ∙ length-append (32 ∷ w) (flat_map (λ v. 32 ∷ v) ws) ∙ ap (λ (n : ℕ). suc (length w) + n) (length-behind ws)

-- a line of words, with its end
length-line : (w : List ℕ) (ws : List (List ℕ)) → length (ended (spaced (w ∷ ws))) ≡ (length w + behind_len ws) + 1
length-line w ws = length-append (spaced (w ∷ ws)) (10 ∷ []) ∙ ap (λ (n : ℕ). n + 1) (length-append w (flat_map (λ v. 32 ∷ v) ws) ∙ ap (λ (n : ℕ). length w + n) (length-behind ws))

length-text : (line : List ℕ) (lines : List (List ℕ)) → length (text_of (line ∷ lines)) ≡ length (ended line) + length (text_of lines)
length-text line lines = ap length (flat_map-cons ended line lines) ∙ length-append (ended line) (text_of lines)

length-both : (a b : List (List ℕ)) → length (text_of (a ++ b)) ≡ length (text_of a) + length (text_of b)
length-both a b = ap length (flat_map-append ended a b) ∙ length-append (text_of a) (text_of b)

length-one : (line : List ℕ) → length (text_of (line ∷ [])) ≡ length (ended line)
length-one line = length-text line [] ∙ omega arith

side_len : (n : ℕ) → n ≤ 4000 → length (decimal n) ≤ 4
side_len n le = length-decimal-le 4 n (omega arith) (omega arith) (omega arith)

weight_len : (n : ℕ) → n ≤ 100000 → length (decimal n) ≤ 6
weight_len n le = length-decimal-le 6 n (omega arith) (omega arith) (omega arith)

number_len : (n : ℕ) → n ≤ 100000000 → length (decimal n) ≤ 9
number_len n le = length-decimal-le 9 n (omega arith) (omega arith) (omega arith)

quantity_len : (n : ℕ) → n ≤ 9999999999 → length (decimal n) ≤ 10
quantity_len n le = length-decimal-le 10 n (omega arith) (omega arith) (omega arith)

-- ---- a certificate

all_parts : (p : ℕ → Bool) (n : ℕ) (xs : List ℕ) → list_all p xs ≡ true → (list_all p (take n xs) ≡ true) × (list_all p (drop n xs) ≡ true)
all_parts p n xs f = both_true (list_all p (take n xs)) (list_all p (drop n xs)) (sym (list_all-append p (take n xs) (drop n xs)) ∙ ap (list_all p) (take-append-drop n xs) ∙ f)

cells_short : (cells : List ℕ) → list_all (λ w. leb w 100000) cells ≡ true → behind_len (map decimal cells) ≤ length cells * 7
cells_short [] f = omega arith
cells_short (w ∷ cells) f =
    let p = both_true (leb w 100000) (list_all (λ v. leb v 100000) cells) f in
    let first = weight_len w (leb-true w 100000 p.0) in
    let others = cells_short cells p.1 in
    omega arith

rows_short : (x n : ℕ) (cells : List ℕ) → list_all (λ w. leb w 100000) cells ≡ true → length (text_of (row_lines x n cells)) ≤ n * 4 + length cells * 7
rows_short x zero cells f = omega arith
rows_short x (suc n) cells f =
    let p = all_parts (λ w. leb w 100000) x cells f in
    let first = cells_short (take x cells) p.0 in
    let line = length-line (codes "row") (map decimal (take x cells)) in
    let others = rows_short x n (drop x cells) p.1 in
    let all = length-text (spaced (row_words (take x cells))) (row_lines x n (drop x cells)) in
    let parts = sym (ap length (take-append-drop x cells)) ∙ length-append (take x cells) (drop x cells) in
    omega arith

tree_len : (t : List Mark) → length (ended (tree_line t)) ≡ length t + 6
tree_len t =
    let a = length-append (tree_line t) (10 ∷ []) in
    let b = length-append (codes "tree ") (map mark_byte t) in
    let c = length-map t mark_byte in
    omega arith

colour_first : (k c : ℕ) → is_weighting Two (weightings.Colour k c) ≡ true → length (ended (spaced (weighting_words (weightings.Colour k c)))) ≤ 60
colour_first k c f =
    let p = both_true (leb 1 k) (leb k 4000 && ltb c k) f in
    let q = both_true (leb k 4000) (ltb c k) p.1 in
    let a = leb-true k 4000 q.0 in
    let b = ltb-true c k q.1 in
    let s = side_len k a in
    let t = side_len c (omega arith) in
    let e = length-line (codes "weighting") (codes "colour" ∷ decimal k ∷ decimal c ∷ []) in
    omega arith

comb_first : (p a r b : ℕ) → is_weighting Two (weightings.Comb p a r b) ≡ true → length (ended (spaced (weighting_words (weightings.Comb p a r b)))) ≤ 60
comb_first p a r b f =
    let h1 = both_true (leb 1 p) (leb p 4000 && (ltb a p && (leb 1 r && (leb r 4000 && ltb b r)))) f in
    let h2 = both_true (leb p 4000) (ltb a p && (leb 1 r && (leb r 4000 && ltb b r))) h1.1 in
    let h3 = both_true (ltb a p) (leb 1 r && (leb r 4000 && ltb b r)) h2.1 in
    let h4 = both_true (leb 1 r) (leb r 4000 && ltb b r) h3.1 in
    let h5 = both_true (leb r 4000) (ltb b r) h4.1 in
    let n1 = leb-true p 4000 h2.0 in
    let n2 = ltb-true a p h3.0 in
    let n3 = leb-true r 4000 h5.0 in
    let n4 = ltb-true b r h5.1 in
    let s1 = side_len p n1 in
    let s2 = side_len a (omega arith) in
    let s3 = side_len r n3 in
    let s4 = side_len b (omega arith) in
    let e = length-line (codes "weighting") (codes "comb" ∷ decimal p ∷ decimal a ∷ decimal r ∷ decimal b ∷ []) in
    omega arith

table_short : (x y : ℕ) (cells : List ℕ) → are_sides x y ≡ true → are_weights (y * x) cells ≡ true → length (ended (spaced (codes "weighting" ∷ codes "table" ∷ decimal x ∷ decimal y ∷ []))) + length (text_of (row_lines x y cells)) ≤ 296060
table_short x y cells s f =
    let h1 = both_true (leb 1 x) (leb x 4000 && (leb 1 y && (leb y 4000 && leb (x * y) 40000))) s in
    let h2 = both_true (leb x 4000) (leb 1 y && (leb y 4000 && leb (x * y) 40000)) h1.1 in
    let h3 = both_true (leb 1 y) (leb y 4000 && leb (x * y) 40000) h2.1 in
    let h4 = both_true (leb y 4000) (leb (x * y) 40000) h3.1 in
    let g = both_true (eqb (length cells) (y * x)) (list_all (λ w. leb w 100000) cells) f in
    let count : length cells ≡ y * x = eqb-true (length cells) (y * x) g.0 in
    let few : x * y ≤ 40000 = leb-true (x * y) 40000 h4.1 in
    let many : length cells ≤ 40000 = omega arith in
    let short_y : y ≤ 4000 = leb-true y 4000 h4.0 in
    let a = side_len x (leb-true x 4000 h2.0) in
    let b = side_len y short_y in
    let e = length-line (codes "weighting") (codes "table" ∷ decimal x ∷ decimal y ∷ []) in
    let rows = rows_short x y cells g.1 in
    omega arith

axis_short : (lines : List ℕ) → list_all (λ line. leb line 3999) lines ≡ true → behind_len (map decimal lines) ≤ length lines * 5
axis_short [] f = omega arith
axis_short (n ∷ ns) f =
    let p = both_true (leb n 3999) (list_all (λ m. leb m 3999) ns) f in
    let low : n ≤ 3999 = leb-true n 3999 p.0 in
    let first = side_len n (omega arith) in
    let others = axis_short ns p.1 in
    omega arith

lines_short : (t : Lines) → are_counts (length t.columns) (length t.rows) ≡ true → (are_lines t.columns && (are_lines t.rows && are_weights (half (length t.rows) * half (length t.columns)) t.quarter)) ≡ true
    → length (ended (spaced (weighting_words (weightings.Lines t)))) + length (text_of (rows_of (weightings.Lines t))) ≤ 330000
lines_short t s f =
    let k = length t.columns in
    let m = length t.rows in
    let h1 = both_true (leb 1 k) (leb k 4000 && (leb 1 m && (leb m 4000 && leb (half k * half m) 40000))) s in
    let h2 = both_true (leb k 4000) (leb 1 m && (leb m 4000 && leb (half k * half m) 40000)) h1.1 in
    let h3 = both_true (leb 1 m) (leb m 4000 && leb (half k * half m) 40000) h2.1 in
    let h4 = both_true (leb m 4000) (leb (half k * half m) 40000) h3.1 in
    let f1 = both_true (are_lines t.columns) (are_lines t.rows && are_weights (half m * half k) t.quarter) f in
    let f2 = both_true (are_lines t.rows) (are_weights (half m * half k) t.quarter) f1.1 in
    let c = both_true (list_all (λ line. leb line 3999) t.columns) (are_rising t.columns) f1.0 in
    let r = both_true (list_all (λ line. leb line 3999) t.rows) (are_rising t.rows) f2.0 in
    let g = both_true (eqb (length t.quarter) (half m * half k)) (list_all (λ w. leb w 100000) t.quarter) f2.1 in
    let count : length t.quarter ≡ half m * half k = eqb-true (length t.quarter) (half m * half k) g.0 in
    let few : half k * half m ≤ 40000 = leb-true (half k * half m) 40000 h4.1 in
    let turn : half m * half k ≡ half k * half m = mul_comm (half m) (half k) in
    let short_k : k ≤ 4000 = leb-true k 4000 h2.0 in
    let short_m : m ≤ 4000 = leb-true m 4000 h4.0 in
    let a = side_len k short_k in
    let b = side_len m short_m in
    let first = length-line (codes "weighting") (codes "lines" ∷ decimal k ∷ decimal m ∷ []) in
    let columns = axis_short t.columns c.0 in
    let rows = axis_short t.rows r.0 in
    let columns_line = length-line (codes "columns") (map decimal t.columns) in
    let rows_line = length-line (codes "rows") (map decimal t.rows) in
    let weights = rows_short (half k) (half m) t.quarter g.1 in
    let t2 = length-text (spaced (lines_words (codes "rows") t.rows)) (row_lines (half k) (half m) t.quarter) in
    let t1 = length-text (spaced (lines_words (codes "columns") t.columns)) (spaced (lines_words (codes "rows") t.rows) ∷ row_lines (half k) (half m) t.quarter) in
    omega arith

weighted_text_len : (w : Weighting) (t : List Mark) → length (cert_text (certs.Weighted w t)) ≡ 14 + ((length (ended (spaced (weighting_words w))) + length (text_of (rows_of w))) + (length t + 6))
unfolding cert_lines
weighted_text_len w t =
    let a = length-text (codes "cert weighted") (weighting_lines w ++ tree_line t ∷ []) in
    let b = length-both (weighting_lines w) (tree_line t ∷ []) in
    let c = length-text (spaced (weighting_words w)) (rows_of w) in
    let d = length-one (tree_line t) in
    let e = tree_len t in
    omega arith

cut_short : (place : ℕ) (c : StripCut) → place ≤ 4000 → is_cut c ≡ true → length (ended (spaced (cut_words place c))) ≤ 40
cut_short place cuts.Area le f =
    let s = side_len place le in
    let e = length-line (codes "cut") (decimal place ∷ codes "area" ∷ []) in
    omega arith
cut_short place (cuts.X a b q) le f =
    let h1 = both_true (leb a 4000) (leb b 4000 && leb q 9999999999) f in
    let h2 = both_true (leb b 4000) (leb q 9999999999) h1.1 in
    let s = side_len place le in
    let s1 = side_len a (leb-true a 4000 h1.0) in
    let s2 = side_len b (leb-true b 4000 h2.0) in
    let s3 = quantity_len q (leb-true q 9999999999 h2.1) in
    let e = length-line (codes "cut") (decimal place ∷ codes "x" ∷ decimal a ∷ decimal b ∷ decimal q ∷ []) in
    omega arith
cut_short place (cuts.Y a b q) le f =
    let h1 = both_true (leb a 4000) (leb b 4000 && leb q 9999999999) f in
    let h2 = both_true (leb b 4000) (leb q 9999999999) h1.1 in
    let s = side_len place le in
    let s1 = side_len a (leb-true a 4000 h1.0) in
    let s2 = side_len b (leb-true b 4000 h2.0) in
    let s3 = quantity_len q (leb-true q 9999999999 h2.1) in
    let e = length-line (codes "cut") (decimal place ∷ codes "y" ∷ decimal a ∷ decimal b ∷ decimal q ∷ []) in
    omega arith

cuts_short : (place : ℕ) (cs : List StripCut) → place + length cs ≤ 4000 → list_all is_cut cs ≡ true → length (text_of (cut_lines place cs)) ≤ length cs * 40
cuts_short place [] le f = omega arith
cuts_short place (c ∷ cs) le f =
    let p = both_true (is_cut c) (list_all is_cut cs) f in
    let first = cut_short place c (omega arith) p.0 in
    let others = cuts_short (place + 1) cs (omega arith) p.1 in
    let e = length-text (spaced (cut_words place c)) (cut_lines (place + 1) cs) in
    omega arith

strip_short : (cs : List StripCut) → InRange Two (certs.Strip cs) → length (cert_text (certs.Strip cs)) ≤ short_length
unfolding cert_lines
strip_short cs f =
    let p = both_true (leb 2 (length cs)) (leb (length cs) 1002 && list_all is_cut cs) f in
    let q = both_true (leb (length cs) 1002) (list_all is_cut cs) p.1 in
    let few = leb-true (length cs) 1002 q.0 in
    let lines = cuts_short 0 cs (omega arith) q.1 in
    let n = side_len (length cs) (omega arith) in
    let first = length-line (codes "cert") (codes "strip" ∷ decimal (length cs) ∷ []) in
    let e = length-text (spaced (codes "cert" ∷ codes "strip" ∷ decimal (length cs) ∷ [])) (cut_lines 0 cs) in
    omega arith

tree_few : (w : Weighting) (t : List Mark) → InRange Two (certs.Weighted w t) → length t ≤ 500000
tree_few w t f =
    let p = both_true (is_weighting Two w) (is_tree t) f in
    leb-true (length t) 500000 (both_true (leb 1 (length t)) (leb (length t) 500000) p.1).1

given_short : length (cert_text certs.GivenArea) ≤ short_length
unfolding cert_lines
given_short = omega arith

pub cert_short : (c : Cert) → InRange Two c → IsTableOrTree c → length (cert_text c) ≤ short_length
cert_short (certs.Weighted weightings.Area t) f h =
    let e = weighted_text_len weightings.Area t in
    let few = tree_few weightings.Area t f in
    omega arith
cert_short (certs.Weighted (weightings.Colour k c) t) f h =
    let e = weighted_text_len (weightings.Colour k c) t in
    let few = tree_few (weightings.Colour k c) t f in
    let first = colour_first k c (both_true (is_weighting Two (weightings.Colour k c)) (is_tree t) f).0 in
    omega arith
cert_short (certs.Weighted (weightings.Comb p a r b) t) f h =
    let e = weighted_text_len (weightings.Comb p a r b) t in
    let few = tree_few (weightings.Comb p a r b) t f in
    let first = comb_first p a r b (both_true (is_weighting Two (weightings.Comb p a r b)) (is_tree t) f).0 in
    omega arith
cert_short (certs.Weighted (weightings.Table w) t) f h =
    let e = weighted_text_len (weightings.Table w) t in
    let g = both_true (is_weighting Two (weightings.Table w)) (is_tree t) f in
    let s = both_true (are_sides w.x_side w.y_side) (are_weights (w.y_side * w.x_side) w.cells) g.0 in
    let table = table_short w.x_side w.y_side w.cells s.0 s.1 in
    let one = h in
    omega arith
cert_short (certs.Weighted (weightings.Lines w) t) f h =
    let e = weighted_text_len (weightings.Lines w) t in
    let g = both_true (is_weighting Two (weightings.Lines w)) (is_tree t) f in
    let s = both_true (are_counts (length w.columns) (length w.rows)) (are_lines w.columns && (are_lines w.rows && are_weights (half (length w.rows) * half (length w.columns)) w.quarter)) g.0 in
    let table = lines_short w s.0 s.1 in
    let one = h in
    omega arith
cert_short (certs.Strip cs) f h = strip_short cs f
cert_short certs.GivenArea f h = given_short

-- ---- an entry

numbers_short : (ns : List ℕ) → list_all (λ n. leb n 100000000) ns ≡ true → behind_len (map decimal ns) ≤ length ns * 10
numbers_short [] f = omega arith
numbers_short (n ∷ ns) f =
    let p = both_true (leb n 100000000) (list_all (λ k. leb k 100000000) ns) f in
    let first = number_len n (leb-true n 100000000 p.0) in
    let others = numbers_short ns p.1 in
    omega arith

id_len : (id : List ℕ) → length id ≤ 40 → length (ended (id_line id)) ≤ 44
id_len id le =
    let e = length-append (id_line id) (10 ∷ []) in
    omega arith

status_len : (s : Status) → length (ended (status_line s)) ≤ 15
status_len Optimal = omega arith
status_len StillOpen = omega arith

column_len : (field : Field) → length (column_name field) ≤ 10
column_len PalletX = omega arith
column_len PalletY = omega arith
column_len CaseX = omega arith
column_len CaseY = omega arith
column_len CaseZ = omega arith
column_len Weight = omega arith
column_len MaxHeight = omega arith
column_len MaxWeight = omega arith
column_len Contact = omega arith
column_len Support = omega arith
column_len Cut = omega arith
column_len Gap = omega arith

fault_len : (f : RowFault) → length (ended (fault_line f)) ≤ 40
fault_len faults.FieldCount = omega arith
fault_len faults.BadId = omega arith
fault_len (faults.BadNumber field) =
    let c = column_len field in
    let e = length-line (codes "refused") (codes "BadNumber" ∷ column_name field ∷ []) in
    omega arith
fault_len (faults.OutOfRange field) =
    let c = column_len field in
    let e = length-line (codes "refused") (codes "OutOfRange" ∷ column_name field ∷ []) in
    omega arith
fault_len faults.DoesNotFit = omega arith
fault_len faults.TooManyCases = omega arith

number_line_len : (n : ℕ) → n ≤ 256 → length (ended (spaced (number_words n))) ≤ 20
number_line_len n le =
    let s = side_len n (omega arith) in
    let e = length-line (codes "entry") (decimal n ∷ []) in
    omega arith

front_short : (p : Plan) → PlanParts Two p → length (text_of (front_lines Two p)) ≤ 300
front_short p q =
    let o = has_order Two p.order q.order in
    let id = id_len p.order.id (id_short p.order.id (passes p.order o.order).id).0 in
    let numbers = numbers_short p.order.numbers o.small in
    let twelve = o.order.twelve in
    let order = length-line (codes "order") (map decimal p.order.numbers) in
    let s1 = side_len p.reduced.l_side p.reduced.sides.l_max in
    let s2 = side_len p.reduced.w_side p.reduced.sides.w_max in
    let s3 = side_len p.reduced.long p.reduced.sides.long_max in
    let le = p.reduced.sides.ordered in
    let most = p.reduced.sides.long_max in
    let s4 = side_len p.reduced.short (omega arith) in
    let reduced = length-line (codes "reduced") (decimal p.reduced.l_side ∷ decimal p.reduced.w_side ∷ decimal p.reduced.long ∷ decimal p.reduced.short ∷ []) in
    let few_count = count_few Two p.count q.count in
    let few_bound = count_few Two p.bound q.bound in
    let n1 = side_len p.count (omega arith) in
    let n2 = side_len p.bound (omega arith) in
    let count = length-line (codes "count") (decimal p.count ∷ []) in
    let bound = length-line (codes "bound") (decimal p.bound ∷ []) in
    let status = status_len p.status in
    let t6 = length-one (status_line p.status) in
    let t5 = length-text (spaced (bound_words p.bound)) (status_line p.status ∷ []) in
    let t4 = length-text (spaced (count_words p.count)) (spaced (bound_words p.bound) ∷ status_line p.status ∷ []) in
    let t3 = length-text (spaced (reduced_words p.reduced)) (spaced (count_words p.count) ∷ spaced (bound_words p.bound) ∷ status_line p.status ∷ []) in
    let t2 = length-text (spaced (order_words Two p.order)) (spaced (reduced_words p.reduced) ∷ spaced (count_words p.count) ∷ spaced (bound_words p.bound) ∷ status_line p.status ∷ []) in
    let t1 = length-text (id_line p.order.id) (spaced (order_words Two p.order) ∷ spaced (reduced_words p.reduced) ∷ spaced (count_words p.count) ∷ spaced (bound_words p.bound) ∷ status_line p.status ∷ []) in
    omega arith

planned_short : (p : Plan) → PlanParts Two p → HasShortCert (Planned p) → length (entry_text Two (Planned p)) ≤ 621600
unfolding entry_lines
planned_short p q h =
    let few = few_layers p.count p.layers q.layers in
    let number = number_line_len p.number (within_is 256 p.number q.number).1 in
    let front = front_short p q in
    let few_count = count_few Two p.count q.count in
    let layers = layers_short p.count p.layers q.layers in
    let answer = answer_short p.order (length p.layers) few (p.allowed, p.stack) (answer_good Two p q) in
    let t5 = length-both (answer_lines (p.allowed, p.stack)) (end_line ∷ []) in
    let t4 = length-both (layers_lines p.layers) (answer_lines (p.allowed, p.stack) ++ end_line ∷ []) in
    let t3 = length-both (cert_lines p.cert) (layers_lines p.layers ++ (answer_lines (p.allowed, p.stack) ++ end_line ∷ [])) in
    let t2 = length-both (front_lines Two p) (cert_lines p.cert ++ (layers_lines p.layers ++ (answer_lines (p.allowed, p.stack) ++ end_line ∷ []))) in
    let t1 = length-text (spaced (number_words p.number)) (front_lines Two p ++ (cert_lines p.cert ++ (layers_lines p.layers ++ (answer_lines (p.allowed, p.stack) ++ end_line ∷ [])))) in
    omega arith

pub entry_short : (e : Entry) → IsInRange Two e → HasShortCert e → length (entry_text Two e) ≤ 621600
unfolding entry_lines
entry_short (Planned p) f h = planned_short p (plan_parts Two p f) h
entry_short (Refused n fault) f h =
    let number = number_line_len n (within_is 256 n (number_good Two (Refused n fault) f)).1 in
    let told = fault_len fault in
    let t3 = length-one end_line in
    let t2 = length-text (fault_line fault) (end_line ∷ []) in
    let t1 = length-text (spaced (number_words n)) (fault_line fault ∷ end_line ∷ []) in
    omega arith

-- ---- a report

entries_short : (n : ℕ) (es : List Entry) → AreNumberedFrom Two n es → AllByRecursion HasShortCert es → length (entries_text Two es) ≤ length es * 621600
entries_short n [] f h = omega arith
entries_short n (e ∷ es) f h =
    let first = entry_short e f.0.1 h.0 in
    let others = entries_short (n + 1) es f.1 h.1 in
    let same : length (entries_text Two (e ∷ es)) ≡ length (entry_text Two e) + length (entries_text Two es) = ap length (flat_map-cons (entry_text Two) e es) ∙ length-append (entry_text Two e) (entries_text Two es) in
    omega arith

pub report_short : (es : List Entry) → AreReported Two es → HaveShortCerts es → length (report_text Two es) < 160000000
report_short es f h =
    let few = f.few in
    let entries = entries_short 1 es f.numbered (recursion_from_All HasShortCert es h) in
    let n = side_len (length es) (omega arith) in
    let done = length-line (codes "done") (decimal (length es) ∷ []) in
    let t2 = length-append (entries_text Two es) (done_text (length es)) in
    let t1 = length-append (head_text Two) (entries_text Two es ++ done_text (length es)) in
    omega arith
