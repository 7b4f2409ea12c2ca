-- What reading a value's lines says of the bytes.
use Rattle.std.proofs.Common.{◌≡◌, ℕ, ◌≤◌, ◌+◌, List, ◌++◌, length, Ok, Err, sym, ap, ◌∙◌, arith}
use Rattle.std.specs.List.{AllByRecursion}
use Rattle.std.proofs.lemmas.List.{length-append}
use Rattle.texts.specs.Lines.{text_of, whole_lines, unfinished}
use Rattle.texts.specs.Grammar.{Reading, Reads, Stops}
use Rattle.texts.specs.Spelling.{HasOneSpelling}
use Rattle.texts.proofs.LineEnds.{IsPlain, whole_text, unfinished_text, taken_is, whole_is}
use Rattle.texts.proofs.Readers.{ok_is, not_both, one_spelling}

module _ {A : Type 0} (lines : A → List (List ℕ)) (Fits : A → Type 0) (read : List (List ℕ) → Reading (List ℕ) A)
    (reads : Reads lines Fits read) (plain : (a : A) → Fits a → AllByRecursion IsPlain (lines a)) where
  -- a value was read, and this is left
  pub record Got (bytes rest : List ℕ) (a : A) : Type 0 where
    pub fits : Fits a
    pub parts : bytes ≡ text_of (lines a) ++ rest
    pub len : length bytes ≡ length (text_of (lines a)) + length rest

  pub got : (bytes rest : List ℕ) (a : A) → read (whole_lines bytes) ≡ Ok (a, whole_lines rest) → unfinished rest ≡ unfinished bytes → Got bytes rest a
  got bytes rest a e u =
      let t = reads.takes (whole_lines bytes) a (whole_lines rest) e in
      let parts : bytes ≡ text_of (lines a) ++ rest = taken_is (lines a) bytes rest t.1 (sym u) in
      record { fits = t.0; parts = parts; len = ap length parts ∙ length-append (text_of (lines a)) rest }

  -- a text in front is read
  pub got_again : (bytes rest : List ℕ) (a : A) → Fits a → bytes ≡ text_of (lines a) ++ rest → read (whole_lines bytes) ≡ Ok (a, whole_lines rest)
  got_again bytes rest a fits e = ap (λ (t : List ℕ). read (whole_lines t)) e ∙ ap read (whole_text (lines a) rest (plain a fits)) ∙ reads.again a (whole_lines rest) fits

  pub same_value : (bytes rest after : List ℕ) (a b : A) → Fits a → bytes ≡ text_of (lines a) ++ rest → read (whole_lines bytes) ≡ Ok (b, whole_lines after) → b ≡ a
  same_value bytes rest after a b fits e h = ap (λ (p : A × List (List ℕ)). p.0) (ok_is (b, whole_lines after) (a, whole_lines rest) (sym h ∙ got_again bytes rest a fits e))

  pub no_fault : (bytes rest : List ℕ) (a : A) (n : ℕ) → Fits a → bytes ≡ text_of (lines a) ++ rest → read (whole_lines bytes) ≡ Err n → ⊥
  no_fault bytes rest a n fits e h = not_both (read (whole_lines bytes)) (a, whole_lines rest) n (got_again bytes rest a fits e) h

  -- a fault, with so many lines left
  pub record Stopped (bytes : List ℕ) (most left : ℕ) : Type 0 where
    pub front : List (List ℕ)
    pub rest : List (List ℕ)
    pub stops : Stops lines Fits (whole_lines bytes) front rest
    pub count : length (whole_lines bytes) ≡ length front + left
    pub few : length front ≤ most

  pub stopped : (bytes : List ℕ) (most left : ℕ) → ((a : A) → Fits a → length (lines a) ≤ most) → read (whole_lines bytes) ≡ Err left → Stopped bytes most left
  stopped bytes most left few e =
      let s = reads.stops (whole_lines bytes) left e in
      let b = s.stops.begun in
      let left_is = s.left_is in
      let count : length (whole_lines bytes) ≡ length s.front + length s.rest = ap length s.stops.parts ∙ length-append s.front s.rest in
      let whole : length (lines b.value) ≡ length s.front + length b.more = ap length b.whole ∙ length-append s.front b.more in
      let n = few b.value b.fits in
      record { front = s.front; rest = s.rest; stops = s.stops; count = omega arith; few = omega arith }

  -- what stands behind a value's text is the same however it is seen
  pub has_one_spelling : HasOneSpelling lines Fits
  has_one_spelling a b after behind f g e =
      let one : lines a ++ whole_lines after ≡ lines b ++ whole_lines behind =
      sym (whole_text (lines a) after (plain a f)) ∙ ap whole_lines e ∙ whole_text (lines b) behind (plain b g) in
      let same = one_spelling lines Fits read reads a b (whole_lines after) (whole_lines behind) f g one in
      let tail : unfinished after ≡ unfinished behind = sym (unfinished_text (lines a) after (plain a f)) ∙ ap unfinished e ∙ unfinished_text (lines b) behind (plain b g) in
      (same.0, whole_is after ∙ ap (λ (t : List (List ℕ)). text_of t ++ unfinished after) same.1 ∙ ap (λ (t : List ℕ). text_of (whole_lines behind) ++ t) tail ∙ sym (whole_is behind))
