-- What reading a tail's lines says of the bytes.
use Rattle.std.proofs.Common.{◌≡◌, ℕ, ◌+◌, ◌≤◌, List, [], ◌∷◌, ◌++◌, length, map, Ok, Err, refl, sym, ap, subst, ◌∙◌, append_assoc, arith, inl, inr}
use Rattle.std.proofs.lemmas.List.{append-nil, length-append}
use Rattle.std.proofs.lemmas.List.Concat.{flat_map-append, flat_map-cons}
use Rattle.texts.specs.Lines.{ended, text_of, whole_lines, unfinished}
use Rattle.texts.proofs.LineEnds.{whole_text, unfinished_text, taken_is, whole_is}
use Rattle.texts.proofs.Readers.{ok_is, not_both}
use Rattle.pallet_choice.specs.Text.{TailValue, rival_line, tail_lines, tail_text}
use Rattle.pallet_choice.specs.Ranges.{IsTail, IsTold}
use Rattle.pallet_choice.specs.Words.{rival_of}
use Rattle.pallet_choice.specs.Lines.{rivals_from, tail_at}
use Rattle.pallet_choice.specs.Tails.{TailIsInFront, IsLongestTail, NoTailIsInFront, with_rivals, GoesOn}
use Rattle.pallet_choice.specs.Laws.{TailsHaveOneText, LongestTailsAreOne, PutTailsAreGot}
use Rattle.pallet_choice.proofs.Chosen.{all_both}
use Rattle.pallet_choice.proofs.EntryLines.{rival_only}
use Rattle.pallet_choice.proofs.RivalLines.{NoneFollows, either, rises_on}
use Rattle.pallet_choice.proofs.TailLines.{last_number, tail_with, tail_plain, longer_lines, tail_more, tail_again, tail_takes}

-- the lines of bytes with a tail in front
front_lines : (bytes : List ℕ) (t : TailValue) (len : ℕ) (f : TailIsInFront bytes t len) → whole_lines bytes ≡ tail_lines t ++ whole_lines f.behind
front_lines bytes t len f = ap whole_lines f.parts ∙ whole_text (tail_lines t) f.behind (tail_plain t f.fits)

-- what reading goes on with behind such a tail
abbrev more_of : TailValue → List ℕ → List (ℕ × ℕ)
more_of t behind = (rivals_from (last_number t) (whole_lines behind)).0

abbrev rest_of : TailValue → List ℕ → List (List ℕ)
rest_of t behind = (rivals_from (last_number t) (whole_lines behind)).1

front_read : (bytes : List ℕ) (t : TailValue) (len : ℕ) (f : TailIsInFront bytes t len) → tail_at (whole_lines bytes) ≡ Ok (with_rivals t (more_of t f.behind), rest_of t f.behind)
front_read bytes t len f = ap tail_at (front_lines bytes t len f) ∙ tail_more t (whole_lines f.behind) f.fits

longer_len : (t : TailValue) (more : List (ℕ × ℕ)) → length (tail_text (with_rivals t more)) ≡ length (tail_text t) + length (text_of (map rival_line more))
longer_len t more =
    ap (λ (ls : List (List ℕ)). length (text_of ls)) (longer_lines t more) ∙ ap length (flat_map-append ended (tail_lines t) (map rival_line more)) ∙ length-append (tail_text t) (text_of (map rival_line more))

-- what is read is as long as each tail in front
read_is_longest : (bytes : List ℕ) (t : TailValue) (rest : List (List ℕ)) → tail_at (whole_lines bytes) ≡ Ok (t, rest) → (other : TailValue) (n : ℕ) → TailIsInFront bytes other n → n ≤ length (tail_text t)
read_is_longest bytes t rest e other n f =
    let more = more_of other f.behind in
    let same : t ≡ with_rivals other more = ap (λ (p : TailValue × List (List ℕ)). p.0) (ok_is (t, rest) (with_rivals other more, rest_of other f.behind) (sym e ∙ front_read bytes other n f)) in
    let len : length (tail_text t) ≡ length (tail_text other) + length (text_of (map rival_line more)) = ap (λ (x : TailValue). length (tail_text x)) same ∙ longer_len other more in
    let is = f.len_is in
    omega arith

-- ---- what is read, and where nothing is

pub record GotTail (bytes rest : List ℕ) (t : TailValue) : Type 0 where
  pub longest : IsLongestTail bytes t (length (tail_text t))
  pub len : length bytes ≡ length (tail_text t) + length rest

pub got_tail : (bytes rest : List ℕ) (t : TailValue) → tail_at (whole_lines bytes) ≡ Ok (t, whole_lines rest) → unfinished rest ≡ unfinished bytes → GotTail bytes rest t
got_tail bytes rest t e u =
    let k = tail_takes (whole_lines bytes) t (whole_lines rest) e in
    let parts : bytes ≡ tail_text t ++ rest = taken_is (tail_lines t) bytes rest k.parts (sym u) in
    record {
      longest = record {
        front = record { fits = k.fits; behind = rest; parts = parts; len_is = refl };
        longest = read_is_longest bytes t (whole_lines rest) e;
      };
      len = ap length parts ∙ length-append (tail_text t) rest;
    }

pub no_tail : (bytes : List ℕ) (left : ℕ) → tail_at (whole_lines bytes) ≡ Err left → NoTailIsInFront bytes
no_tail bytes left e t len f = not_both (tail_at (whole_lines bytes)) (with_rivals t (more_of t f.behind), rest_of t f.behind) left (front_read bytes t len f) e

-- ---- one longest tail

-- what is read stands in front
read_in_front : (bytes : List ℕ) (t : TailValue) (rest : List (List ℕ)) → tail_at (whole_lines bytes) ≡ Ok (t, rest) → TailIsInFront bytes t (length (tail_text t))
read_in_front bytes t rest e =
    let k = tail_takes (whole_lines bytes) t rest e in
    record {
      fits = k.fits;
      behind = text_of rest ++ unfinished bytes;
      parts = whole_is bytes ∙ ap (λ (ls : List (List ℕ)). text_of ls ++ unfinished bytes) k.parts ∙ ap (λ (x : List ℕ). x ++ unfinished bytes) (flat_map-append ended (tail_lines t) rest) ∙ append_assoc (tail_text t) (text_of rest) (unfinished bytes);
      len_is = refl;
    }

no_text_no_rivals : (rs : List (ℕ × ℕ)) → length (text_of (map rival_line rs)) ≤ 0 → rs ≡ []
no_text_no_rivals [] le = refl
no_text_no_rivals (r ∷ rs) le =
    let e = ap length (flat_map-cons ended (rival_line r) (map rival_line rs)) ∙ length-append (ended (rival_line r)) (text_of (map rival_line rs)) in
    let one = length-append (rival_line r) (10 ∷ []) in
    absurd (omega arith)

-- the longest tail is what is read
longest_is_read : (bytes : List ℕ) (t : TailValue) (len : ℕ) (f : IsLongestTail bytes t len) → tail_at (whole_lines bytes) ≡ Ok (t, rest_of t f.front.behind)
longest_is_read bytes t len f =
    let more = more_of t f.front.behind in
    let read = front_read bytes t len f.front in
    let no_longer = f.longest (with_rivals t more) (length (tail_text (with_rivals t more))) (read_in_front bytes (with_rivals t more) (rest_of t f.front.behind) read) in
    let is = f.front.len_is in
    let grown = longer_len t more in
    let none : more ≡ [] = no_text_no_rivals more (omega arith) in
    read ∙ ap (λ (rs : List (ℕ × ℕ)). Ok (with_rivals t rs, rest_of t f.front.behind)) none ∙ ap (λ (rs : List (ℕ × ℕ)). Ok (tail_with t.chosen rs, rest_of t f.front.behind)) (append-nil t.rivals)

pub one_longest : LongestTailsAreOne
one_longest bytes a b m n f g =
    let pair = ok_is (a, rest_of a f.front.behind) (b, rest_of b g.front.behind) (sym (longest_is_read bytes a m f) ∙ longest_is_read bytes b n g) in
    let same : a ≡ b = ap (λ (p : TailValue × List (List ℕ)). p.0) pair in
    (same, f.front.len_is ∙ ap (λ (t : TailValue). length (tail_text t)) same ∙ sym g.front.len_is)

-- ---- what was put is got

-- the first of the whole lines, with its end, is in front
first_line : (bytes l : List ℕ) (ls : List (List ℕ)) → whole_lines bytes ≡ l ∷ ls → bytes ≡ ended l ++ (text_of ls ++ unfinished bytes)
first_line bytes l ls e =
    whole_is bytes ∙ ap (λ (t : List (List ℕ)). text_of t ++ unfinished bytes) e ∙ ap (λ (x : List ℕ). x ++ unfinished bytes) (flat_map-cons ended l ls) ∙ append_assoc (ended l) (text_of ls) (unfinished bytes)

-- where the tail does not go on, no rival's line follows
none_follows : (t : TailValue) (rest : List ℕ) (ls : List (List ℕ)) → IsTail t → ¬ GoesOn t rest → whole_lines rest ≡ ls → NoneFollows (last_number t) ls
none_follows t rest [] f stops e = tt
none_follows t rest (l ∷ ls) f stops e = elim (either (rival_of (last_number t) l)) [
  | inl none ↦ none
  | inr some ↦
      let o = rival_only (last_number t) l some.0 some.1 in
      absurd (stops (record {
        rival = some.0;
        fits = record {
          chosen = f.chosen;
          rivals = all_both IsTold t.rivals (some.0 ∷ []) f.rivals (o.told, tt);
          rise = rises_on 0 t.rivals some.0 f.rise o.above;
        };
        more = text_of ls ++ unfinished rest;
        parts = first_line rest l ls e ∙ ap (λ (x : List ℕ). ended x ++ (text_of ls ++ unfinished rest)) o.line_is;
      }))
]

pub put_is_got : PutTailsAreGot
put_is_got t rest f stops =
    let read : tail_at (whole_lines (tail_text t ++ rest)) ≡ Ok (t, whole_lines rest) = ap tail_at (whole_text (tail_lines t) rest (tail_plain t f)) ∙ tail_again t (whole_lines rest) f (none_follows t rest (whole_lines rest) f stops refl) in
    (got_tail (tail_text t ++ rest) rest t read (sym (unfinished_text (tail_lines t) rest (tail_plain t f)))).longest

-- ---- one text

ends_the_bytes : (t : TailValue) → ¬ GoesOn t []
ends_the_bytes t g =
    let e = ap length g.parts ∙ length-append (ended (rival_line g.rival)) g.more in
    let one = length-append (rival_line g.rival) (10 ∷ []) in
    omega arith

pub one_text : TailsHaveOneText
one_text a b f g e =
    let first = put_is_got a [] f (ends_the_bytes a) in
    let second = put_is_got b [] g (ends_the_bytes b) in
    let same : tail_text a ++ [] ≡ tail_text b ++ [] = ap (λ (t : List ℕ). t ++ []) e in
    (one_longest (tail_text b ++ []) a b (length (tail_text a)) (length (tail_text b)) (subst (λ (t : List ℕ). IsLongestTail t a (length (tail_text a))) same first) second).0
