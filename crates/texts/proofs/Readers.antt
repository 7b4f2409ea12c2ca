-- What a reader of a grammar owes, and how readers are put together.
use Rattle.std.proofs.Common.{◌≡◌, ℕ, suc, List, [], ◌∷◌, ◌++◌, length, Option, Some, None, Result, Ok, Err, refl, sym, ap, subst, ◌∙◌, append_assoc, ◌⊎◌, inl, inr}
use Rattle.texts.specs.Grammar.{Begins, NoneGoesOn, StopsAt, Reads, Reading, ◌>>=◌, or_stop, first_by}

-- ---- equations between answers

pub bind_ok : {X Y : Type 0} (r : Result X ℕ) (f : X → Result Y ℕ) (y : Y) → (r >>= f) ≡ Ok y → (x : X) × (r ≡ Ok x) × (f x ≡ Ok y)
bind_ok (Ok x) f y e = (x, refl, e)
bind_ok (Err d) f y e = absurd cc

pub bind_err : {X Y : Type 0} (r : Result X ℕ) (f : X → Result Y ℕ) (n : ℕ) → (r >>= f) ≡ Err n → (r ≡ Err n) ⊎ ((x : X) × (r ≡ Ok x) × (f x ≡ Err n))
bind_err (Ok x) f n e = inr (x, refl, e)
bind_err (Err d) f n e = let same : d ≡ n = cc in inl (ap (λ k. Err k) same)

abbrev good : {X : Type 0} → X → Result X ℕ
good x = Ok x

abbrev bad : {X : Type 0} → ℕ → Result X ℕ
bad n = Err n

pub not_both : {X : Type 0} (r : Result X ℕ) (x : X) (n : ℕ) → r ≡ Ok x → r ≡ Err n → ⊥
not_both r x n p q = let e : good x ≡ bad n = sym p ∙ q in absurd cc

pub ok_is : {X : Type 0} (x y : X) → good x ≡ good y → x ≡ y
ok_is x y e = cc

-- ---- two ways to cut a list

pub record Later {S : Type 0} (p q u v : List S) : Type 0 where
  pub mid : List S
  pub front : u ≡ p ++ mid
  pub back : q ≡ mid ++ v

-- the first cut is before the second, or the second before the first
pub two_cuts : {S : Type 0} (p q u v : List S) → p ++ q ≡ u ++ v → Later p q u v ⊎ Later u v p q
two_cuts [] q u v e = inl (record { mid = u; front = refl; back = e })
two_cuts (x ∷ p) q [] v e = inr (record { mid = x ∷ p; front = refl; back = sym e })
two_cuts (x ∷ p) q (y ∷ u) v e =
    let heads : x ≡ y = cc in
    let tails : p ++ q ≡ u ++ v = cc in
    elim (two_cuts p q u v tails) [
      | inl l ↦ inl (record { mid = l.mid; front = let f = l.front in cc; back = l.back })
      | inr l ↦ inr (record { mid = l.mid; front = let f = l.front in cc; back = l.back })
    ]

-- ---- one sign

module _ {S A : Type 0} (f : S → Option A) (text : A → S) (Fits : A → Type 0) (example : A) (example_fits : Fits example)
    (back : (a : A) → Fits a → f (text a) ≡ Some a) (only : (x : S) (a : A) → f x ≡ Some a → Fits a × (x ≡ text a)) where
  or_stop_ok : (o : Option A) (xs : List S) (a : A) (rest : List S) → or_stop o xs ≡ Ok (a, rest) → (o ≡ Some a) × (xs ≡ rest)
  or_stop_ok None xs a rest e = absurd cc
  or_stop_ok (Some b) xs a rest e =
      let pair = ok_is (b, xs) (a, rest) e in
      (ap (λ (p : A × List S). Some p.0) pair, ap (λ (p : A × List S). p.1) pair)

  or_stop_err : (o : Option A) (xs : List S) (n : ℕ) → or_stop o xs ≡ Err n → (o ≡ None) × (n ≡ suc (length xs))
  or_stop_err None xs n e = (refl, cc)
  or_stop_err (Some b) xs n e = absurd cc

  first_again : (a : A) (rest : List S) → Fits a → first_by f ((text a ∷ []) ++ rest) ≡ Ok (a, rest)
  first_again a rest fits = ap (λ o. or_stop o rest) (back a fits)

  first_takes : (xs : List S) (a : A) (rest : List S) → first_by f xs ≡ Ok (a, rest) → Fits a × (xs ≡ (text a ∷ []) ++ rest)
  first_takes [] a rest e = absurd cc
  first_takes (x ∷ xs) a rest e =
      let p = or_stop_ok (f x) xs a rest e in
      let o = only x a p.0 in
      let is = o.1 in
      let tails = p.1 in
      (o.0, cc)

  none_begins : (x : S) → f x ≡ None → Begins (λ a. text a ∷ []) Fits (x ∷ []) → ⊥
  none_begins x none b =
      let w = b.whole in
      let same : text b.value ≡ x = cc in
      let got = back b.value b.fits in
      let e : f x ≡ Some b.value = rw (← same) got in
      cc

  first_stops : (xs : List S) (left : ℕ) → first_by f xs ≡ Err left → StopsAt (λ a. text a ∷ []) Fits xs left
  first_stops [] left e =
      record { front = []; rest = []; left_is = cc; stops = record { parts = refl; begun = record { value = example; fits = example_fits; more = text example ∷ []; whole = refl }; ends = tt } }
  first_stops (x ∷ xs) left e =
      let p = or_stop_err (f x) xs left e in
      record { front = []; rest = x ∷ xs; left_is = p.1; stops = record { parts = refl; begun = record { value = example; fits = example_fits; more = text example ∷ []; whole = refl }; ends = none_begins x p.0 } }

  pub reads_first : Reads (λ a. text a ∷ []) Fits (first_by f)
  reads_first = record { some = example; some_fits = example_fits; again = first_again; takes = first_takes; stops = first_stops }

-- ---- nothing more: the value is known

pub reads_none : {S B : Type 0} (Fits : B → Type 0) (b : B) → Fits b → ((c : B) → Fits c → c ≡ b) → Reads {S = S} (λ _. []) Fits (λ xs. Ok (b, xs))
reads_none {S} {B} Fits b fits one = record {
  some = b;
  some_fits = fits;
  again = λ a rest h. ap (λ (c : B). Ok (c, rest)) (sym (one a h));
  takes = λ xs a rest e.
      let pair = ok_is (b, xs) (a, rest) e in
      (subst Fits (ap (λ (p : B × List S). p.0) pair) fits, ap (λ (p : B × List S). p.1) pair);
  stops = λ xs left e. absurd cc;
}

-- ---- one thing and then another, which may depend on it

module _ {S A B : Type 0} (la : A → List S) (Fa : A → Type 0) (ra : List S → Reading S A) (key : B → A)
    (lb : B → List S) (Fb : B → Type 0) (rb : A → List S → Reading S B)
    (P : Reads la Fa ra) (Q : (a : A) → Fa a → Reads lb (λ b. Fb b × (key b ≡ a)) (rb a)) (keyed : (b : B) → Fb b → Fa (key b)) where
  spell_then : B → List S
  spell_then b = la (key b) ++ lb b

  read_then : List S → Reading S B
  read_then xs = ra xs >>= λ x. rb x.0 x.1

  then_again : (b : B) (rest : List S) → Fb b → (ra ((la (key b) ++ lb b) ++ rest) >>= λ x. rb x.0 x.1) ≡ Ok (b, rest)
  then_again b rest fits =
      let one = P.again (key b) (lb b ++ rest) (keyed b fits) in
      let two = (Q (key b) (keyed b fits)).again b rest (fits, refl) in
      rw (append_assoc, one) two

  then_takes : (xs : List S) (b : B) (rest : List S) → (ra xs >>= λ x. rb x.0 x.1) ≡ Ok (b, rest) → Fb b × (xs ≡ (la (key b) ++ lb b) ++ rest)
  then_takes xs b rest e =
      let s = bind_ok (ra xs) (λ x. rb x.0 x.1) (b, rest) e in
      let p = P.takes xs s.0.0 s.0.1 s.1 in
      let q = (Q s.0.0 p.0).takes s.0.1 b rest s.2 in
      (q.0.0, p.1 ∙ ap (λ (t : List S). la s.0.0 ++ t) q.1 ∙ sym (append_assoc (la s.0.0) (lb b) rest) ∙ ap (λ (a : A). (la a ++ lb b) ++ rest) (sym q.0.1))

  begun_first : (front : List S) → Begins la Fa front → Begins (λ b. la (key b) ++ lb b) Fb front
  begun_first front h =
      let q = Q h.value h.fits in
      record {
        value = q.some;
        fits = q.some_fits.0;
        more = h.more ++ lb q.some;
        whole = ap (λ (a : A). la a ++ lb q.some) q.some_fits.1 ∙ ap (λ (t : List S). t ++ lb q.some) h.whole ∙ append_assoc front h.more (lb q.some);
      }

  -- a whole text of the first kind at the front excludes a fault there
  read_first : (xs : List S) (a : A) (rest : List S) (left : ℕ) → Fa a → xs ≡ la a ++ rest → ra xs ≡ Err left → ⊥
  read_first xs a rest left fits is e = not_both (ra xs) (a, rest) left (ap ra is ∙ P.again a rest fits) e

  ends_first : (xs front rest : List S) (left : ℕ) → ra xs ≡ Err left → xs ≡ front ++ rest → NoneGoesOn la Fa front rest → NoneGoesOn (λ b. la (key b) ++ lb b) Fb front rest
  ends_first xs front [] left e parts none = tt
  ends_first xs front (x ∷ rest) left e parts none = λ h.
      elim (two_cuts (la (key h.value)) (lb h.value) (front ++ x ∷ []) h.more h.whole) [
        | inl l ↦ read_first xs (key h.value) (l.mid ++ rest) left (keyed h.value h.fits)
            (parts ∙ sym (append_assoc front (x ∷ []) rest) ∙ ap (λ (t : List S). t ++ rest) l.front ∙ append_assoc (la (key h.value)) l.mid rest) e
        | inr l ↦ none (record { value = key h.value; fits = keyed h.value h.fits; more = l.mid; whole = l.front })
      ]

  begun_second : (a : A) (front : List S) → Begins lb (λ b. Fb b × (key b ≡ a)) front → Begins (λ b. la (key b) ++ lb b) Fb (la a ++ front)
  begun_second a front h = record {
    value = h.value;
    fits = h.fits.0;
    more = h.more;
    whole = ap (λ (c : A). la c ++ lb h.value) h.fits.1 ∙ ap (λ (t : List S). la a ++ t) h.whole ∙ sym (append_assoc (la a) front h.more);
  }

  -- a text that begins with a whole text of the first kind has that as its key
  key_is : (a : A) (front : List S) → Fa a → Begins (λ b. la (key b) ++ lb b) Fb (la a ++ front) → Begins lb (λ b. Fb b × (key b ≡ a)) front
  key_is a front fits h =
      let got = P.again (key h.value) (lb h.value) (keyed h.value h.fits) in
      let there = P.again a (front ++ h.more) fits in
      let same = ap ra (h.whole ∙ append_assoc (la a) front h.more) in
      let pair = ok_is (key h.value, lb h.value) (a, front ++ h.more) (sym got ∙ same ∙ there) in
      record {
        value = h.value;
        fits = (h.fits, ap (λ (p : A × List S). p.0) pair);
        more = h.more;
        whole = ap (λ (p : A × List S). p.1) pair;
      }

  ends_second : (a : A) (front rest : List S) → Fa a → NoneGoesOn lb (λ b. Fb b × (key b ≡ a)) front rest → NoneGoesOn (λ b. la (key b) ++ lb b) Fb (la a ++ front) rest
  ends_second a front [] fits none = tt
  ends_second a front (x ∷ rest) fits none = λ h. none (key_is a (front ++ x ∷ []) fits (subst (Begins (λ b. la (key b) ++ lb b) Fb) (append_assoc (la a) front (x ∷ [])) h))

  then_stops : (xs : List S) (left : ℕ) → (ra xs >>= λ x. rb x.0 x.1) ≡ Err left → StopsAt (λ b. la (key b) ++ lb b) Fb xs left
  then_stops xs left e =
      elim (bind_err (ra xs) (λ x. rb x.0 x.1) left e) [
        | inl one ↦
            let s = P.stops xs left one in
            record {
              front = s.front;
              rest = s.rest;
              left_is = s.left_is;
              stops = record {
                parts = s.stops.parts;
                begun = begun_first s.front s.stops.begun;
                ends = ends_first xs s.front s.rest left one s.stops.parts s.stops.ends;
              };
            }
        | inr two ↦
            let p = P.takes xs two.0.0 two.0.1 two.1 in
            let s = (Q two.0.0 p.0).stops two.0.1 left two.2 in
            record {
              front = la two.0.0 ++ s.front;
              rest = s.rest;
              left_is = s.left_is;
              stops = record {
                parts = p.1 ∙ ap (λ (t : List S). la two.0.0 ++ t) s.stops.parts ∙ sym (append_assoc (la two.0.0) s.front s.rest);
                begun = begun_second two.0.0 s.front s.stops.begun;
                ends = ends_second two.0.0 s.front s.rest p.0 s.stops.ends;
              };
            }
      ]

  pub reads_then : Reads (λ b. la (key b) ++ lb b) Fb (λ xs. ra xs >>= λ x. rb x.0 x.1)
  reads_then =
      let q = Q P.some P.some_fits in
      record { some = q.some; some_fits = q.some_fits.0; again = then_again; takes = then_takes; stops = then_stops }

-- ---- the same in other words

pub reads_as : {S A : Type 0} (l l2 : A → List S) (F F2 : A → Type 0) (r r2 : List S → Reading S A) → Reads l F r → ((a : A) → F2 a → F a) → ((a : A) → F a → F2 a) → ((a : A) → F a → l2 a ≡ l a) → ((xs : List S) → r2 xs ≡ r xs) → Reads l2 F2 r2
reads_as {S} l l2 F F2 r r2 P to of text same = record {
  some = P.some;
  some_fits = of P.some P.some_fits;
  again = λ a rest fits. same (l2 a ++ rest) ∙ ap (λ (t : List S). r (t ++ rest)) (text a (to a fits)) ∙ P.again a rest (to a fits);
  takes = λ xs a rest e.
      let p = P.takes xs a rest (sym (same xs) ∙ e) in
      (of a p.0, p.1 ∙ ap (λ (t : List S). t ++ rest) (sym (text a p.0)));
  stops = λ xs left e.
      let s = P.stops xs left (sym (same xs) ∙ e) in
      let b = s.stops.begun in
      record {
        front = s.front;
        rest = s.rest;
        left_is = s.left_is;
        stops = record {
          parts = s.stops.parts;
          begun = record { value = b.value; fits = of b.value b.fits; more = b.more; whole = text b.value b.fits ∙ b.whole };
          ends = none_as s.front s.rest s.stops.ends;
        };
      };
}
  where
    none_as : (front rest : List S) → NoneGoesOn l F front rest → NoneGoesOn l2 F2 front rest
    none_as front [] none = tt
    none_as front (x ∷ rest) none = λ h. none (record { value = h.value; fits = to h.value h.fits; more = h.more; whole = sym (text h.value (to h.value h.fits)) ∙ h.whole })

-- ---- one spelling, and none that begins with another

pub one_spelling : {S A : Type 0} (l : A → List S) (F : A → Type 0) (r : List S → Reading S A) → Reads l F r → (a b : A) (after behind : List S) → F a → F b → l a ++ after ≡ l b ++ behind → (a ≡ b) × (after ≡ behind)
one_spelling {S} {A} l F r P a b after behind f g e =
    let pair = ok_is (a, after) (b, behind) (sym (P.again a after f) ∙ ap r e ∙ P.again b behind g) in
    (ap (λ (p : A × List S). p.0) pair, ap (λ (p : A × List S). p.1) pair)
