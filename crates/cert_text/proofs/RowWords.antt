-- The lines of a table's row and of a tree are read exactly.
use Rattle.std.proofs.Common.{◌≡◌, ℕ, List, [], ◌∷◌, ◌++◌, length, map, take, drop, Some, refl, sym, ap, subst, ◌∙◌, arith, true, eqb, leb, inl, inr}
use Rattle.std.specs.Prelude.{decimal, codes, ◌&&◌}
use Rattle.std.specs.Str.{bytes_eq}
use Rattle.std.specs.List.{list_all, AllByRecursion}
use Rattle.std.proofs.lemmas.Bool.{cases_Bool, eqb-true}
use Rattle.std.proofs.lemmas.List.{take-append-drop, length-map}
use Rattle.std.proofs.lemmas.Slice.Eq.{bytes_eq-Decides}
use Rattle.texts.specs.Lines.{spaced}
use Rattle.texts.proofs.LineEnds.{IsPlain}
use Rattle.texts.proofs.Parsers.{Parses, guard_some, both_true, parses_behind, AreNumbers, numbers_parse, numbers_solid, IsWord, words_spaced, ReadsLine, reads_line}
use Rattle.weightings.specs.declared.certs.Mark.{Mark}
use Rattle.weightings.specs.declared.certs.Mark.TheVariants.{Branch, Leaf}
use Rattle.cert_text.specs.Ranges.{is_tree}
use Rattle.cert_text.specs.Text.{row_words, mark_byte, tree_line}
use Rattle.cert_text.specs.Words.{row_at, row_of, is_mark, mark_of, are_marks, tree_of}
use Rattle.texts.specs.Words.{numbers_by}

-- ---- a row

row_parses : (x_side : ℕ) → Parses row_words (AreNumbers 100000 x_side) (row_at x_side)
unfolding row_at
row_parses x_side = parses_behind (codes "row") (map decimal) (AreNumbers 100000 x_side) (numbers_by 100000 x_side) (numbers_parse 100000 x_side (omega arith))

pub row_solid : (cells : List ℕ) → list_all (λ w. leb w 100000) cells ≡ true → AllByRecursion IsWord (row_words cells)
row_solid cells f = (refl, numbers_solid 100000 cells (omega arith) f)

pub row_reads : (x_side : ℕ) → ReadsLine (λ cells. spaced (row_words cells)) (AreNumbers 100000 x_side) (row_of x_side)
unfolding row_of
row_reads x_side = reads_line row_words (AreNumbers 100000 x_side) (row_at x_side) (row_parses x_side) (λ cells f. words_spaced (codes "row") (map decimal cells) (row_solid cells f.1))

-- ---- a tree

marks_back : (marks : List Mark) → map mark_of (map mark_byte marks) ≡ marks
marks_back [] = refl
marks_back (Branch ∷ marks) = ap (λ (ms : List Mark). Branch ∷ ms) (marks_back marks)
marks_back (Leaf ∷ marks) = ap (λ (ms : List Mark). Leaf ∷ ms) (marks_back marks)

marks_are : (marks : List Mark) → list_all is_mark (map mark_byte marks) ≡ true
marks_are [] = refl
marks_are (Branch ∷ marks) = marks_are marks
marks_are (Leaf ∷ marks) = marks_are marks

byte_back : (b : ℕ) → is_mark b ≡ true → mark_byte (mark_of b) ≡ b
byte_back b e =
    elim (cases_Bool (eqb b 66)) [
      | inl y ↦ rw y (sym (eqb-true b 66 y))
      | inr n ↦
          let dot : eqb b 46 ≡ true = rw n at e in
          rw n (sym (eqb-true b 46 dot))
    ]

bytes_back : (bytes : List ℕ) → list_all is_mark bytes ≡ true → map mark_byte (map mark_of bytes) ≡ bytes
bytes_back [] e = refl
bytes_back (b ∷ bytes) e =
    let p = both_true (is_mark b) (list_all is_mark bytes) e in
    ap (λ (t : List ℕ). mark_byte (mark_of b) ∷ t) (bytes_back bytes p.1) ∙ ap (λ (n : ℕ). n ∷ bytes) (byte_back b p.0)

good_bytes : (marks : List Mark) → is_tree marks ≡ true → are_marks (map mark_byte marks) ≡ true
good_bytes marks f =
    let p = both_true (leb 1 (length marks)) (leb (length marks) 500000) f in
    rw (length-map marks mark_byte, p.0, p.1, marks_are marks) refl

good_marks : (bytes : List ℕ) → are_marks bytes ≡ true → is_tree (map mark_of bytes) ≡ true
good_marks bytes f =
    let p = both_true (leb 1 (length bytes)) (leb (length bytes) 500000 && list_all is_mark bytes) f in
    let q = both_true (leb (length bytes) 500000) (list_all is_mark bytes) p.1 in
    rw (length-map bytes mark_of, p.0, q.0) refl

only_marks : (bytes : List ℕ) → are_marks bytes ≡ true → list_all is_mark bytes ≡ true
only_marks bytes f =
    let p = both_true (leb 1 (length bytes)) (leb (length bytes) 500000 && list_all is_mark bytes) f in
    (both_true (leb (length bytes) 500000) (list_all is_mark bytes) p.1).1

pub tree_reads : ReadsLine tree_line (λ t. is_tree t ≡ true) tree_of
unfolding tree_of
tree_reads = record {
  back = λ t f. rw (good_bytes t f) (ap (λ (ms : List Mark). Some ms) (marks_back t));
  only = λ line t e.
      let bytes = drop 5 line in
      let g = guard_some (bytes_eq (take 5 line) (codes "tree ") && are_marks (drop 5 line)) (map mark_of (drop 5 line)) t e in
      let b = both_true (bytes_eq (take 5 line) (codes "tree ")) (are_marks (drop 5 line)) g.0 in
      let front : take 5 line ≡ codes "tree " = (bytes_eq-Decides (take 5 line) (codes "tree ")).0 b.0 in
      let same : drop 5 line ≡ map mark_byte t = sym (bytes_back (drop 5 line) (only_marks (drop 5 line) b.1)) ∙ ap (map mark_byte) g.1 in
      (subst (λ (x : List Mark). is_tree x ≡ true) g.1 (good_marks (drop 5 line) b.1), sym (take-append-drop 5 line) ∙ ap (λ (x : List ℕ). x ++ drop 5 line) front ∙ ap (λ (x : List ℕ). codes "tree " ++ x) same);
}

marks_plain : (t : List Mark) → IsPlain (map mark_byte t)
marks_plain [] = tt
marks_plain (Branch ∷ t) = (refl, marks_plain t)
marks_plain (Leaf ∷ t) = (refl, marks_plain t)

pub tree_plain : (t : List Mark) → IsPlain (tree_line t)
tree_plain t = (refl, (refl, (refl, (refl, (refl, marks_plain t)))))
