-- What a reader of words owes, and how such readers are put together.
use Rattle.std.proofs.Common.{◌≡◌, ℕ, suc, ◌≤◌, ◌<◌, ◌^◌, List, [], ◌∷◌, ◌++◌, length, Option, Some, None, refl, sym, ap, subst, ◌∙◌, append_assoc, arith, Bool, true, false, cond, eqb, leb, inl, inr, zero, eq-eqb}
use Rattle.std.proofs.lemmas.Bool.{cases_Bool, eqb-true, leb-true, le-leb}
use Rattle.std.proofs.lemmas.Slice.Eq.{bytes_eq-Decides}
use Rattle.std.proofs.lemmas.Fmt.{digits_decimal}
use Rattle.std.specs.Prelude.{decimal, option_map, ◌&&◌, map}
use Rattle.std.specs.Char.{is_ascii_digit}
use Rattle.std.specs.Str.{bytes_eq}
use Rattle.std.specs.List.{list_all, AllByRecursion}
use Rattle.plan_io.specs.Numbers.{number_of}
use Rattle.plan_io.proofs.NumberTexts.{own}
pub use Rattle.plan_io.proofs.NumberTexts.{number_back, number_is}
use Rattle.std.specs.List.{onto_first, flat_map}
use Rattle.std.proofs.lemmas.List.{append-nil, nil_from_length}
use Rattle.std.proofs.lemmas.List.Elements.{All-from_recursion}
use Rattle.std.proofs.lemmas.List.Concat.{flat_map-cons}
use Rattle.std.proofs.lemmas.List.Splits.{slice_split_none, slice_split_at, slice_split-cons_yes, slice_split-cons_no, length-slice_split}
use Rattle.std.proofs.lemmas.Bool.{ltb-true}
use Rattle.std.proofs.lemmas.Bool.Decides.{nat_tests}
use Rattle.std.proofs.Common.{ltb}
use Rattle.texts.specs.Lines.{words_of, spaced}
use Rattle.texts.proofs.LineEnds.{IsPlain}
use Rattle.texts.specs.Words.{◌>>=◌, word_by, behind, up_to, only, number_up_to, this_number, numbers_by, all_words}

-- The reader reads exactly the spellings of values that fit.
pub record Parses {S A : Type 0} (spell : A → List S) (Fits : A → Type 0) (read : List S → Option (A × List S)) : Type 0 where
  pub again : (a : A) (rest : List S) → Fits a → read (spell a ++ rest) ≡ Some (a, rest)
  pub takes : (xs : List S) (a : A) (rest : List S) → read xs ≡ Some (a, rest) → Fits a × (xs ≡ spell a ++ rest)

pub bind_some : {X Y : Type 0} (r : Option X) (f : X → Option Y) (y : Y) → (r >>= f) ≡ Some y → (x : X) × (r ≡ Some x) × (f x ≡ Some y)
bind_some (Some x) f y e = (x, refl, e)
bind_some None f y e = absurd cc

abbrev some_of : {X : Type 0} → X → Option X
some_of x = Some x

pub some_is : {X : Type 0} (x y : X) → some_of x ≡ some_of y → x ≡ y
some_is x y e = cc

pub map_some : {X Y : Type 0} (r : Option X) (f : X → Y) (y : Y) → option_map f r ≡ Some y → (x : X) × (r ≡ Some x) × (f x ≡ y)
map_some (Some x) f y e = (x, refl, some_is (f x) y e)
map_some None f y e = absurd cc

pub guard_some : {X : Type 0} (b : Bool) (x y : X) → cond b (Some x) None ≡ Some y → (b ≡ true) × (x ≡ y)
guard_some true x y e = (refl, cc)
guard_some false x y e = absurd cc

pub both_true : (a b : Bool) → (a && b) ≡ true → (a ≡ true) × (b ≡ true)
both_true true b e = (refl, e)
both_true false b e = absurd cc

-- ---- one word

pub parses_word : {A : Type 0} (f : List ℕ → Option A) (text : A → List ℕ) (Fits : A → Type 0)
    → ((a : A) → Fits a → f (text a) ≡ Some a) → ((w : List ℕ) (a : A) → f w ≡ Some a → Fits a × (w ≡ text a)) → Parses (λ a. text a ∷ []) Fits (word_by f)
parses_word {A} f text Fits back only = record {
  again = λ a rest fits. ap (option_map (λ x. (x, rest))) (back a fits);
  takes = word_takes;
}
  where
    word_takes : (xs : List (List ℕ)) (a : A) (rest : List (List ℕ)) → word_by f xs ≡ Some (a, rest) → Fits a × (xs ≡ (text a ∷ []) ++ rest)
    word_takes [] a rest e = absurd cc
    word_takes (w ∷ ws) a rest e =
        let m = map_some (f w) (λ x. (x, ws)) (a, rest) e in
        let first : m.0 ≡ a = ap (λ (p : A × List (List ℕ)). p.0) m.2 in
        let o = only w a (m.1 ∙ ap (λ (x : A). Some x) first) in
        (o.0, ap (λ (t : List ℕ). t ∷ ws) o.1 ∙ ap (λ (p : A × List (List ℕ)). text a ∷ p.1) m.2)

-- ---- a given word, and what follows it

pub parses_behind : {A : Type 0} (word : List ℕ) (spell : A → List (List ℕ)) (Fits : A → Type 0) (read : List (List ℕ) → Option (A × List (List ℕ)))
    → Parses spell Fits read → Parses (λ a. word ∷ spell a) Fits (λ ws. behind word ws >>= read)
parses_behind {A} word spell Fits read P = record {
  again = λ a rest fits. rw (bytes_same word) (P.again a rest fits);
  takes = behind_takes;
}
  where
    bytes_same : (w : List ℕ) → bytes_eq w w ≡ true
    bytes_same w = (bytes_eq-Decides w w).1 refl

    behind_takes : (xs : List (List ℕ)) (a : A) (rest : List (List ℕ)) → (behind word xs >>= read) ≡ Some (a, rest) → Fits a × (xs ≡ (word ∷ spell a) ++ rest)
    behind_takes [] a rest e = absurd cc
    behind_takes (w ∷ ws) a rest e =
        let b = bind_some (behind word (w ∷ ws)) read (a, rest) e in
        let g = guard_some (bytes_eq w word) ws b.0 b.1 in
        let p = P.takes b.0 a rest b.2 in
        let same : w ≡ word = (bytes_eq-Decides w word).0 g.0 in
        (p.0, ap (λ (t : List ℕ). t ∷ ws) same ∙ ap (λ (t : List (List ℕ)). word ∷ t) (g.1 ∙ p.1))

-- ---- nothing more

pub parses_none : {S B : Type 0} (Fits : B → Type 0) (b : B) → Fits b → ((c : B) → Fits c → c ≡ b) → Parses {S = S} (λ _. []) Fits (λ xs. Some (b, xs))
parses_none {S} {B} Fits b fits one = record {
  again = λ a rest h. ap (λ (c : B). Some (c, rest)) (sym (one a h));
  takes = λ xs a rest e.
      let pair = some_is (b, xs) (a, rest) e in
      (subst Fits (ap (λ (p : B × List S). p.0) pair) fits, ap (λ (p : B × List S). p.1) pair);
}

-- ---- one thing and then another, which may depend on it

pub parses_then : {S A B : Type 0} (la : A → List S) (Fa : A → Type 0) (ra : List S → Option (A × List S)) (key : B → A)
    (lb : B → List S) (Fb : B → Type 0) (rb : A → List S → Option (B × List S))
    → Parses la Fa ra → ((a : A) → Fa a → Parses lb (λ b. Fb b × (key b ≡ a)) (rb a)) → ((b : B) → Fb b → Fa (key b))
    → Parses (λ b. la (key b) ++ lb b) Fb (λ xs. ra xs >>= λ x. rb x.0 x.1)
parses_then {S} {A} {B} la Fa ra key lb Fb rb P Q keyed = record {
  again = λ b rest fits.
      let one = P.again (key b) (lb b ++ rest) (keyed b fits) in
      let two = (Q (key b) (keyed b fits)).again b rest (fits, refl) in
      rw (append_assoc, one) two;
  takes = λ xs b rest e.
      let s = bind_some (ra xs) (λ x. rb x.0 x.1) (b, rest) e in
      let p = P.takes xs s.0.0 s.0.1 s.1 in
      let q = (Q s.0.0 p.0).takes s.0.1 b rest s.2 in
      (q.0.0, p.1 ∙ ap (λ (t : List S). la s.0.0 ++ t) q.1 ∙ sym (append_assoc (la s.0.0) (lb b) rest) ∙ ap (λ (a : A). (la a ++ lb b) ++ rest) (sym q.0.1));
}

pub parses_as : {S A : Type 0} (l l2 : A → List S) (F F2 : A → Type 0) (r r2 : List S → Option (A × List S)) → Parses l F r → ((a : A) → F2 a → F a) → ((a : A) → F a → F2 a) → ((a : A) → F a → l2 a ≡ l a) → ((xs : List S) → r2 xs ≡ r xs) → Parses l2 F2 r2
parses_as {S} l l2 F F2 r r2 P to of text same = record {
  again = λ a rest fits. same (l2 a ++ rest) ∙ ap (λ (t : List S). r (t ++ rest)) (text a (to a fits)) ∙ P.again a rest (to a fits);
  takes = λ xs a rest e.
      let p = P.takes xs a rest (sym (same xs) ∙ e) in
      (of a p.0, p.1 ∙ ap (λ (t : List S). t ++ rest) (sym (text a p.0)));
}

-- ---- numbers as words

pub parses_number : (most : ℕ) → most ≤ 9999999999 → Parses (λ n. decimal n ∷ []) (λ n. n ≤ most) (word_by (number_up_to most))
parses_number most le = parses_word (number_up_to most) decimal (λ n. n ≤ most) back only
  where
    back : (n : ℕ) → n ≤ most → number_up_to most (decimal n) ≡ Some n
    back n h =
        let t : leb n most ≡ true = le-leb _ _ h in
        rw (number_back n (omega arith)) (rw t refl)

    only : (w : List ℕ) (n : ℕ) → number_up_to most w ≡ Some n → (n ≤ most) × (w ≡ decimal n)
    only w n e =
        let b = bind_some (number_of w) (up_to most) n e in
        let g = guard_some (leb b.0 most) b.0 n b.2 in
        let s = number_is w b.0 b.1 in
        let le = leb-true b.0 most g.0 in
        let same = g.1 in
        (omega arith, s.1 ∙ ap decimal g.1)

pub parses_this : (m : ℕ) → m ≤ 9999999999 → Parses (λ n. decimal n ∷ []) (λ n. n ≡ m) (word_by (this_number m))
parses_this m le = parses_word (this_number m) decimal (λ n. n ≡ m) back only_m
  where
    back : (n : ℕ) → n ≡ m → this_number m (decimal n) ≡ Some n
    back n h =
        let t : eqb n m ≡ true = eq-eqb n m h in
        rw (number_back n (omega arith)) (rw t refl)

    only_m : (w : List ℕ) (n : ℕ) → this_number m w ≡ Some n → (n ≡ m) × (w ≡ decimal n)
    only_m w n e =
        let b = bind_some (number_of w) (only m) n e in
        let g = guard_some (eqb b.0 m) b.0 n b.2 in
        let s = number_is w b.0 b.1 in
        (sym g.1 ∙ eqb-true b.0 m g.0, s.1 ∙ ap decimal g.1)

-- ---- so many numbers

pub number_then : {B : Type 0} (most : ℕ) → most ≤ 9999999999 → (key : B → ℕ) (lb : B → List (List ℕ)) (Fb : B → Type 0) (rb : ℕ → List (List ℕ) → Option (B × List (List ℕ)))
    → ((n : ℕ) → n ≤ most → Parses lb (λ b. Fb b × (key b ≡ n)) (rb n)) → ((b : B) → Fb b → key b ≤ most)
    → Parses (λ b. decimal (key b) ∷ lb b) Fb (λ xs. word_by (number_up_to most) xs >>= λ n. rb n.0 n.1)
number_then {B} most le key lb Fb rb Q keyed =
    parses_then (λ n. decimal n ∷ []) (λ n. n ≤ most) (word_by (number_up_to most)) key lb Fb rb (parses_number most le) Q keyed

-- there are so many, each at most so great
abbrev pub AreNumbers : ℕ → ℕ → List ℕ → Type 0
AreNumbers most n ns = (length ns ≡ n) × (list_all (λ m. leb m most) ns ≡ true)

abbrev first_number : List ℕ → ℕ
first_number [] = 0
first_number (n ∷ ns) = n

abbrev other_numbers : List ℕ → List ℕ
other_numbers [] = []
other_numbers (n ∷ ns) = ns

-- the other numbers, where the first is known
others_parse : (most n m : ℕ) → m ≤ most → Parses (map decimal) (AreNumbers most n) (numbers_by most n)
    → Parses (λ ns. map decimal (other_numbers ns)) (λ ns. AreNumbers most (suc n) ns × (first_number ns ≡ m)) (λ ws. numbers_by most n ws >>= λ x. Some (m ∷ x.0, x.1))
others_parse most n m le P =
    parses_as (λ ns. map decimal (other_numbers ns) ++ []) (λ ns. map decimal (other_numbers ns)) Fits Fits
    (λ ws. numbers_by most n ws >>= λ x. Some (m ∷ x.0, x.1)) (λ ws. numbers_by most n ws >>= λ x. Some (m ∷ x.0, x.1))
    (parses_then (map decimal) (AreNumbers most n) (numbers_by most n) other_numbers (λ ns. []) Fits (λ ns ws. Some (m ∷ ns, ws)) P
    (λ ns f. parses_none (λ all. Fits all × (other_numbers all ≡ ns)) (m ∷ ns) ((made ns f, refl), refl) (one ns))
    keyed)
    (λ ns f. f) (λ ns f. f) (λ ns f. sym (append-nil (map decimal (other_numbers ns)))) (λ ws. refl)
  where
    Fits : List ℕ → Type 0
    Fits ns = AreNumbers most (suc n) ns × (first_number ns ≡ m)

    made : (ns : List ℕ) → AreNumbers most n ns → AreNumbers most (suc n) (m ∷ ns)
    made ns f = (ap suc f.0, rw (le-leb m most le) f.1)

    one : (ns all : List ℕ) → Fits all × (other_numbers all ≡ ns) → all ≡ m ∷ ns
    one ns [] f = let e = f.0.0.0 in absurd (omega arith)
    one ns (d ∷ ds) f = ap (λ (x : ℕ). x ∷ ds) f.0.1 ∙ ap (λ (xs : List ℕ). m ∷ xs) f.1

    keyed : (all : List ℕ) → Fits all → AreNumbers most n (other_numbers all)
    keyed [] f = let e = f.0.0 in absurd (omega arith)
    keyed (d ∷ ds) f = let e = f.0.0 in (omega arith, (both_true (leb d most) (list_all (λ k. leb k most) ds) f.0.1).1)

pub numbers_parse : (most n : ℕ) → most ≤ 9999999999 → Parses (map decimal) (AreNumbers most n) (numbers_by most n)
unfolding numbers_by
numbers_parse most zero le =
    parses_as (λ ns. []) (map decimal) (AreNumbers most 0) (AreNumbers most 0) (λ ws. Some ([], ws)) (numbers_by most 0)
    (parses_none (AreNumbers most 0) [] (refl, refl) none) (λ ns f. f) (λ ns f. f) (λ ns f. ap (map decimal) (none ns f)) (λ ws. refl)
  where
    none : (ns : List ℕ) → AreNumbers most 0 ns → ns ≡ []
    none [] f = refl
    none (n ∷ ns) f = let e = f.0 in absurd (omega arith)
numbers_parse most (suc n) le =
    parses_as (λ ns. decimal (first_number ns) ∷ map decimal (other_numbers ns)) (map decimal) (AreNumbers most (suc n)) (AreNumbers most (suc n))
    (λ ws. word_by (number_up_to most) ws >>= λ a. numbers_by most n a.1 >>= λ x. Some (a.0 ∷ x.0, x.1)) (numbers_by most (suc n))
    (number_then most le first_number (λ ns. map decimal (other_numbers ns)) (AreNumbers most (suc n)) (λ m ws. numbers_by most n ws >>= λ x. Some (m ∷ x.0, x.1))
    (λ m hm. others_parse most n m hm (numbers_parse most n le))
    keyed)
    (λ ns f. f) (λ ns f. f) texts (λ ws. refl)
  where
    keyed : (ns : List ℕ) → AreNumbers most (suc n) ns → first_number ns ≤ most
    keyed [] f = omega arith
    keyed (m ∷ ns) f = leb-true m most (both_true (leb m most) (list_all (λ k. leb k most) ns) f.1).0

    texts : (ns : List ℕ) → AreNumbers most (suc n) ns → map decimal ns ≡ decimal (first_number ns) ∷ map decimal (other_numbers ns)
    texts [] f = let e = f.0 in absurd (omega arith)
    texts (m ∷ ns) f = refl

-- ---- a value that is known, and tested

pub parses_checked : {S B : Type 0} (Fits : B → Type 0) (v : B) (ok : Bool) → ((c : B) → Fits c → (c ≡ v) × (ok ≡ true)) → (ok ≡ true → Fits v) → Parses {S = S} (λ _. []) Fits (λ xs. cond ok (Some (v, xs)) None)
parses_checked {S} {B} Fits v ok one fits = record {
  again = λ a rest h.
      let o = one a h in
      rw o.1 (ap (λ (c : B). Some (c, rest)) (sym o.0));
  takes = λ xs a rest e.
      let g = guard_some ok (v, xs) (a, rest) e in
      (subst Fits (ap (λ (p : B × List S). p.0) g.1) (fits g.0), ap (λ (p : B × List S). p.1) g.1);
}

-- ---- words and lines

abbrev pub is_solid : ℕ → Bool
is_solid b = ltb 32 b

-- no byte of a word is a space, or the end of a line
abbrev pub IsWord : List ℕ → Type 0
IsWord w = list_all is_solid w ≡ true

solid_not : (n b : ℕ) → n ≤ 32 → is_solid b ≡ true → eqb b n ≡ false
solid_not n b le e = elim (cases_Bool (eqb b n)) [
  | inl y ↦ let s = eqb-true b n y in let t = ltb-true 32 b e in absurd (omega arith)
  | inr x ↦ x
]

word_avoids : (n : ℕ) (w : List ℕ) → n ≤ 32 → IsWord w → AllByRecursion (λ b. eqb b n ≡ false) w
word_avoids n [] le e = tt
word_avoids n (b ∷ w) le e = let p = both_true (is_solid b) (list_all is_solid w) e in (solid_not n b le p.0, word_avoids n w le p.1)

pub decimal_is_word : (n : ℕ) → n < 2 ^ 64 → IsWord (decimal n)
decimal_is_word n wide = solid (decimal n) (digits_decimal own n wide)
  where
    digit_solid : (c : ℕ) → is_ascii_digit c ≡ true → is_solid c ≡ true
    digit_solid c e = grind (arith, nat_tests)

    solid : (w : List ℕ) → list_all is_ascii_digit w ≡ true → list_all is_solid w ≡ true
    solid [] e = refl
    solid (c ∷ w) e =
        let p = both_true (is_ascii_digit c) (list_all is_ascii_digit w) e in
        rw (digit_solid c p.0, solid w p.1) refl

pub few_wide : (n : ℕ) → n ≤ 9999999999 → IsWord (decimal n)
few_wide n le = decimal_is_word n (omega arith)

pub numbers_solid : (most : ℕ) (ns : List ℕ) → most ≤ 9999999999 → list_all (λ m. leb m most) ns ≡ true → AllByRecursion IsWord (map decimal ns)
numbers_solid most [] le f = tt
numbers_solid most (n ∷ ns) le f =
    let p = both_true (leb n most) (list_all (λ k. leb k most) ns) f in
    let small = leb-true n most p.0 in
    (few_wide n (omega arith), numbers_solid most ns le p.1)

pub words_spaced : (w : List ℕ) (ws : List (List ℕ)) → AllByRecursion IsWord (w ∷ ws) → words_of (spaced (w ∷ ws)) ≡ w ∷ ws
words_spaced w [] all = ap words_of (append-nil w) ∙ slice_split_none (λ b. eqb b 32) w (All-from_recursion (λ b. eqb b 32 ≡ false) w (word_avoids 32 w (omega arith) all.0))
words_spaced w (v ∷ ws) all =
    let e : spaced (w ∷ v ∷ ws) ≡ w ++ 32 ∷ spaced (v ∷ ws) = ap (λ (t : List ℕ). w ++ t) (flat_map-cons (λ (x : List ℕ). 32 ∷ x) v ws) in
    ap words_of e ∙ slice_split_at (λ b. eqb b 32) w 32 (spaced (v ∷ ws)) (All-from_recursion (λ b. eqb b 32 ≡ false) w (word_avoids 32 w (omega arith) all.0)) refl
    ∙ ap (λ (t : List (List ℕ)). w ∷ t) (words_spaced v ws all.1)

-- a line is its words, spaced
join_onto : (b : ℕ) (parts : List (List ℕ)) → 0 < length parts → spaced (onto_first b parts) ≡ b ∷ spaced parts
join_onto b [] h = absurd (omega arith)
join_onto b (p ∷ parts) h = refl

some_words : (line : List ℕ) → 0 < length (words_of line)
some_words line = omega (arith, length-slice_split (λ b. eqb b 32) line)

space_first : (parts : List (List ℕ)) → 0 < length parts → spaced ([] ∷ parts) ≡ 32 ∷ spaced parts
space_first [] h = absurd (omega arith)
space_first (p ∷ parts) h = flat_map-cons (λ (x : List ℕ). 32 ∷ x) p parts

pub spaced_words : (line : List ℕ) → spaced (words_of line) ≡ line
spaced_words [] = refl
spaced_words (b ∷ line) = elim (cases_Bool (eqb b 32)) [
  | inl y ↦ ap spaced (slice_split-cons_yes (λ b. eqb b 32) b line y) ∙ space_first (words_of line) (some_words line) ∙ ap (λ (t : List ℕ). 32 ∷ t) (spaced_words line) ∙ ap (λ (n : ℕ). n ∷ line) (sym (eqb-true b 32 y))
  | inr n ↦ ap spaced (slice_split-cons_no (λ b. eqb b 32) b line n) ∙ join_onto b (words_of line) (some_words line) ∙ ap (λ (t : List ℕ). b ∷ t) (spaced_words line)
]

plain_append : (a b : List ℕ) → IsPlain a → IsPlain b → IsPlain (a ++ b)
plain_append [] b p q = q
plain_append (x ∷ a) b p q = (p.0, plain_append a b p.1 q)

pub plain_spaced : (ws : List (List ℕ)) → AllByRecursion IsWord ws → IsPlain (spaced ws)
plain_spaced [] all = tt
plain_spaced (w ∷ ws) all = plain_append w (flat_map (λ v. 32 ∷ v) ws) (word_avoids 10 w (omega arith) all.0) (others ws all.1)
  where
    others : (vs : List (List ℕ)) → AllByRecursion IsWord vs → IsPlain (flat_map (λ v. 32 ∷ v) vs)
    others [] h = tt
    others (v ∷ vs) h = subst IsPlain (sym (flat_map-cons (λ (x : List ℕ). 32 ∷ x) v vs)) (refl, plain_append v (flat_map (λ v. 32 ∷ v) vs) (word_avoids 10 v (omega arith) h.0) (others vs h.1))

-- a line that is read by its words
pub record ReadsLine {A : Type 0} (text : A → List ℕ) (Fits : A → Type 0) (f : List ℕ → Option A) : Type 0 where
  pub back : (a : A) → Fits a → f (text a) ≡ Some a
  pub only : (line : List ℕ) (a : A) → f line ≡ Some a → Fits a × (line ≡ text a)

pub reads_line : {A : Type 0} (spell : A → List (List ℕ)) (Fits : A → Type 0) (read : List (List ℕ) → Option (A × List (List ℕ))) → Parses spell Fits read
    → ((a : A) → Fits a → words_of (spaced (spell a)) ≡ spell a) → ReadsLine (λ a. spaced (spell a)) Fits (λ line. all_words (read (words_of line)))
reads_line {A} spell Fits read P words = record {
  back = λ a fits. ap (λ (ws : List (List ℕ)). all_words (read ws)) (words a fits ∙ sym (append-nil (spell a))) ∙ ap all_words (P.again a [] fits);
  only = λ line a e.
      let r = all_is (read (words_of line)) a e in
      let t = P.takes (words_of line) a [] r in
      (t.0, sym (spaced_words line) ∙ ap spaced (t.1 ∙ append-nil (spell a)));
}
  where
    all_is : (o : Option (A × List (List ℕ))) (a : A) → all_words o ≡ Some a → o ≡ Some (a, [])
    all_is None a e = absurd cc
    all_is (Some x) a e =
        let g = guard_some (eqb (length x.1) 0) x.0 a e in
        let none : x.1 ≡ [] = nil_from_length x.1 (eqb-true (length x.1) 0 g.0) in
        ap (λ (b : A). Some (b, x.1)) g.1 ∙ ap (λ (ws : List (List ℕ)). Some (a, ws)) none

pub some_left : (line : List ℕ) → eqb (length (words_of line)) 0 ≡ false
some_left line = elim (cases_Bool (eqb (length (words_of line)) 0)) [
  | inl y ↦ let z = eqb-true (length (words_of line)) 0 y in let p = some_words line in absurd (omega arith)
  | inr n ↦ n
]
