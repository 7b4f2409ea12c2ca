-- Where lines and words end.
use Rattle.std.proofs.Common.{◌≡◌, ℕ, ◌+◌, ◌<◌, ◌≤◌, ◌-◌, List, [], ◌∷◌, ◌++◌, length, get_or, take, drop, Some, None, refl, sym, ap, subst, ◌∙◌, append_assoc, arith, Bool, false, cond, eqb, inl, inr, length-drop}
use Rattle.std.proofs.Math.Numerals.{one-add}
use Rattle.std.specs.List.{AllByRecursion, position, position_or_len, count_by}
use Rattle.std.proofs.lemmas.Bool.{cases_Bool, eqb-true}
use Rattle.std.proofs.lemmas.List.{take_all}
use Rattle.std.proofs.lemmas.List.Elements.{All-from_recursion}
use Rattle.std.proofs.lemmas.List.Concat.{flat_map-cons}
use Rattle.std.proofs.lemmas.List.Sums.{split_at_first, passes_at_first}
use Rattle.std.proofs.lemmas.List.Splits.{slice_split_first, slice_split_none}
use Rattle.std.proofs.lemmas.List.Recursion.{is_count_by}
use Rattle.texts.specs.Lines.{onto_line, whole_lines, onto_rest, unfinished, ended, text_of, TakesLine, words_of}

abbrev pub is_end : ℕ → Bool
is_end b = eqb b 10

-- no byte of a line is its end
abbrev pub IsPlain : List ℕ → Type 0
IsPlain line = AllByRecursion (λ b. is_end b ≡ false) line

pub whole_at : (line rest : List ℕ) → IsPlain line → whole_lines (line ++ 10 ∷ rest) ≡ line ∷ whole_lines rest
unfolding whole_lines
whole_at [] rest plain = refl
whole_at (b ∷ line) rest plain = rw (plain.0, whole_at line rest plain.1) refl

pub unfinished_at : (line rest : List ℕ) → IsPlain line → unfinished (line ++ 10 ∷ rest) ≡ unfinished rest
unfolding unfinished
unfinished_at [] rest plain = refl
unfinished_at (b ∷ line) rest plain = rw (plain.0, whole_at line rest plain.1, unfinished_at line rest plain.1) refl

whole_none : (bytes : List ℕ) → IsPlain bytes → whole_lines bytes ≡ []
unfolding whole_lines
whole_none [] plain = refl
whole_none (b ∷ bytes) plain = rw (plain.0, whole_none bytes plain.1) refl

-- a text is its whole lines, and what is unfinished
pub whole_is : (bytes : List ℕ) → bytes ≡ text_of (whole_lines bytes) ++ unfinished bytes
unfolding whole_lines unfinished
whole_is [] = refl
whole_is (b ∷ bytes) = elim (cases_Bool (eqb b 10)) [
  | inl yes_end ↦
      let ten = eqb-true b 10 yes_end in
      rw yes_end (ap (λ (n : ℕ). n ∷ bytes) ten ∙ ap (λ (t : List ℕ). 10 ∷ t) (whole_is bytes))
  | inr no_end ↦ rw no_end (onto b bytes (whole_lines bytes) (unfinished bytes) (whole_is bytes))
]
  where
    onto : (b : ℕ) (bytes : List ℕ) (lines : List (List ℕ)) (rest : List ℕ) → bytes ≡ text_of lines ++ rest → b ∷ bytes ≡ text_of (onto_line b lines) ++ onto_rest b lines rest
    onto b bytes [] rest e = ap (λ (t : List ℕ). b ∷ t) e
    onto b bytes (l ∷ lines) rest e = ap (λ (t : List ℕ). b ∷ t) e ∙ ap (λ (t : List ℕ). b ∷ (t ++ rest)) (flat_map-cons ended l lines) ∙ ap (λ (t : List ℕ). t ++ rest) (sym (flat_map-cons ended (b ∷ l) lines))

pub whole_text : (lines : List (List ℕ)) (rest : List ℕ) → AllByRecursion IsPlain lines → whole_lines (text_of lines ++ rest) ≡ lines ++ whole_lines rest
whole_text [] rest plain = refl
whole_text (l ∷ lines) rest plain =
    let e : text_of (l ∷ lines) ++ rest ≡ l ++ 10 ∷ (text_of lines ++ rest) = rw flat_map-cons (simp append_assoc) in
    ap whole_lines e ∙ whole_at l (text_of lines ++ rest) plain.0 ∙ ap (λ (t : List (List ℕ)). l ∷ t) (whole_text lines rest plain.1)

pub unfinished_text : (lines : List (List ℕ)) (rest : List ℕ) → AllByRecursion IsPlain lines → unfinished (text_of lines ++ rest) ≡ unfinished rest
unfinished_text [] rest plain = refl
unfinished_text (l ∷ lines) rest plain =
    let e : text_of (l ∷ lines) ++ rest ≡ l ++ 10 ∷ (text_of lines ++ rest) = rw flat_map-cons (simp append_assoc) in
    ap unfinished e ∙ unfinished_at l (text_of lines ++ rest) plain.0 ∙ unfinished_text lines rest plain.1

-- what was taken from a text, line by line, is its front
pub taken_is : (lines : List (List ℕ)) (bytes rest : List ℕ) → whole_lines bytes ≡ lines ++ whole_lines rest → unfinished bytes ≡ unfinished rest → bytes ≡ text_of lines ++ rest
taken_is lines bytes rest e u =
    whole_is bytes ∙ ap (λ (t : List (List ℕ)). text_of t ++ unfinished bytes) e ∙ ap (λ (t : List ℕ). text_of (lines ++ whole_lines rest) ++ t) u
    ∙ ap (λ (t : List ℕ). t ++ unfinished rest) (text_both lines (whole_lines rest)) ∙ append_assoc (text_of lines) (text_of (whole_lines rest)) (unfinished rest)
    ∙ ap (λ (t : List ℕ). text_of lines ++ t) (sym (whole_is rest))
  where
    text_both : (a b : List (List ℕ)) → text_of (a ++ b) ≡ text_of a ++ text_of b
    text_both [] b = refl
    text_both (l ∷ a) b = rw (flat_map-cons ended l (a ++ b), flat_map-cons ended l a) (ap (λ (t : List ℕ). ended l ++ t) (text_both a b) ∙ sym (append_assoc (ended l) (text_of a) (text_of b)))

clean_front : (p : ℕ → Bool) (xs : List ℕ) → AllByRecursion (λ b. p b ≡ false) (take (position_or_len p xs) xs)
clean_front p [] = tt
clean_front p (x ∷ xs) = elim (cases_Bool (p x)) [
  | inl passes ↦ rw passes tt
  | inr fails ↦ rw (fails, one-add) (fails, clean_front p xs)
]

pub some_place : (p : ℕ → Bool) (xs : List ℕ) (at : ℕ) → position p xs ≡ Some at → (at ≡ position_or_len p xs) × (at < length xs)
some_place p xs at e = grind (arith)

pub no_place : (p : ℕ → Bool) (xs : List ℕ) → position p xs ≡ None → take (position_or_len p xs) xs ≡ xs
no_place p xs e = let le : length xs ≤ position_or_len p xs = grind (arith) in take_all (position_or_len p xs) xs le

pub takes_line : (bytes : List ℕ) (at : ℕ) → position is_end bytes ≡ Some at → TakesLine bytes (take at bytes) (take (length bytes - (at + 1)) (drop (at + 1) bytes))
takes_line bytes at e =
    let s = some_place is_end bytes at e in
    let is = s.0 in
    let lt : position_or_len is_end bytes < length bytes = omega arith in
    let cut = split_at_first is_end bytes 0 lt in
    let ten : get_or bytes (position_or_len is_end bytes) 0 ≡ 10 = eqb-true _ _ (passes_at_first is_end bytes 0 lt) in
    let plain : IsPlain (take at bytes) = rw is (clean_front is_end bytes) in
    let whole : bytes ≡ take at bytes ++ 10 ∷ drop (at + 1) bytes = rw is (cut ∙ ap (λ (b : ℕ). take (position_or_len is_end bytes) bytes ++ b ∷ drop (position_or_len is_end bytes + 1) bytes) ten) in
    let all : take (length bytes - (at + 1)) (drop (at + 1) bytes) ≡ drop (at + 1) bytes = take_all (length bytes - (at + 1)) (drop (at + 1) bytes) (omega (arith, length-drop (at + 1) bytes)) in
    rw all (record {
      lines = ap whole_lines whole ∙ whole_at (take at bytes) (drop (at + 1) bytes) plain;
      unfinished = ap unfinished whole ∙ unfinished_at (take at bytes) (drop (at + 1) bytes) plain;
    })

pub takes_none : (bytes : List ℕ) → position is_end bytes ≡ None → whole_lines bytes ≡ []
takes_none bytes e = whole_none bytes (subst IsPlain (no_place is_end bytes e) (clean_front is_end bytes))

pub takes_word : (line : List ℕ) (at : ℕ) → position (λ b. eqb b 32) line ≡ Some at → words_of line ≡ take at line ∷ words_of (take (length line - (at + 1)) (drop (at + 1) line))
takes_word line at e =
    let s = some_place (λ b. eqb b 32) line at e in
    let is = s.0 in
    let lt : position_or_len (λ b. eqb b 32) line < length line = omega arith in
    let all : take (length line - (at + 1)) (drop (at + 1) line) ≡ drop (at + 1) line = take_all (length line - (at + 1)) (drop (at + 1) line) (omega (arith, length-drop (at + 1) line)) in
    rw (all, is) (slice_split_first (λ b. eqb b 32) line 0 lt)

pub last_word : (line : List ℕ) → position (λ b. eqb b 32) line ≡ None → words_of line ≡ line ∷ []
last_word line e = slice_split_none (λ b. eqb b 32) line (All-from_recursion (λ b. eqb b 32 ≡ false) line (subst (AllByRecursion (λ b. eqb b 32 ≡ false)) (no_place (λ b. eqb b 32) line e) (clean_front (λ b. eqb b 32) line)))

pub count_ends : (bytes : List ℕ) → length (whole_lines bytes) ≡ count_by is_end bytes
unfolding whole_lines
count_ends = is_count_by (λ bytes. length (whole_lines bytes)) is_end refl step
  where
    longer : (b : ℕ) (lines : List (List ℕ)) → length (onto_line b lines) ≡ length lines
    longer b [] = refl
    longer b (l ∷ lines) = refl

    step : (b : ℕ) (bytes : List ℕ) → length (whole_lines (b ∷ bytes)) ≡ cond (is_end b) (1 + length (whole_lines bytes)) (length (whole_lines bytes))
    step b bytes = elim (cases_Bool (is_end b)) [
      | inl y ↦ rw y (sym (one-add _))
      | inr n ↦ rw n (longer b (whole_lines bytes))
    ]
