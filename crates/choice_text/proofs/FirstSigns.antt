-- A reader that goes one of two ways by the first sign.
use Rattle.std.proofs.Common.{◌≡◌, ℕ, List, [], ◌∷◌, ◌++◌, Ok, Err, refl, sym, ap, subst, ◌∙◌, Bool, true, false, cond, ◌⊎◌, inl, inr}
use Rattle.std.proofs.lemmas.Bool.{cases_Bool, false≢true}
use Rattle.texts.specs.Grammar.{Begins, NoneGoesOn, StopsAt, Reads, Reading}

-- there is a first sign, and it is none of these
abbrev pub StartsOtherwise : {S : Type 0} → (S → Bool) → List S → Type 0
StartsOtherwise test [] = ⊥
StartsOtherwise test (x ∷ xs) = test x ≡ false

-- the first sign, where there is one, is none of these
abbrev NotFirst : {S : Type 0} → (S → Bool) → List S → Type 0
NotFirst test [] = Unit {0}
NotFirst test (x ∷ xs) = test x ≡ false

-- one reader reads after such a sign, the other whatever begins otherwise
abbrev pub by_first : {S A : Type 0} → (S → Bool) → (List S → Reading S A) → (List S → Reading S A) → List S → Reading S A
by_first test after others [] = others []
by_first test after others (x ∷ xs) = cond (test x) (after xs) (others (x ∷ xs))

module _ {S : Type 0} (sign : S) (test : S → Bool) (passes : test sign ≡ true) (only : (x : S) → test x ≡ true → x ≡ sign) where
  is_other : (x : S) → x ≡ sign → test x ≡ false → ⊥
  is_other x same other = false≢true (sym other ∙ ap test same ∙ passes)

  otherwise : (ys zs : List S) → StartsOtherwise test ys → ys ≡ sign ∷ zs → ⊥
  otherwise [] zs s e = absurd s
  otherwise (y ∷ ys) zs s e = let same : y ≡ sign = cc in is_other y same s

  never_first : (front : List S) (x : S) (rest more ys xs : List S) → xs ≡ front ++ x ∷ rest → NotFirst test xs → sign ∷ ys ≡ (front ++ x ∷ []) ++ more → ⊥
  never_first [] x rest more ys xs parts other e =
      let n : test x ≡ false = subst (NotFirst test) parts other in
      let same : x ≡ sign = cc in
      is_other x same n
  never_first (k ∷ front) x rest more ys xs parts other e =
      let n : test k ≡ false = subst (NotFirst test) parts other in
      let same : k ≡ sign = cc in
      is_other k same n

  module _ {A : Type 0} (la : A → List S) (Fa : A → Type 0) (ra : List S → Reading S A) (lb : A → List S) (Fb : A → Type 0) (rb : List S → Reading S A)
      (l : A → List S) (F : A → Type 0) (P : Reads la Fa ra) (Q : Reads lb Fb rb)
      (first : (a : A) → Fa a → F a × (l a ≡ sign ∷ la a)) (second : (a : A) → Fb a → F a × (l a ≡ lb a) × StartsOtherwise test (lb a)) (either : (a : A) → F a → Fa a ⊎ Fb a) where
    read_other : (xs rest : List S) → StartsOtherwise test xs → by_first test ra rb (xs ++ rest) ≡ rb (xs ++ rest)
    read_other [] rest s = absurd s
    read_other (x ∷ xs) rest s = rw s refl

    first_again : (a : A) (rest : List S) → F a → by_first test ra rb (l a ++ rest) ≡ Ok (a, rest)
    first_again a rest f = elim (either a f) [
      | inl fa ↦
          let o = first a fa in
          let read : by_first test ra rb (sign ∷ (la a ++ rest)) ≡ ra (la a ++ rest) = rw passes refl in
          ap (λ (t : List S). by_first test ra rb (t ++ rest)) o.1 ∙ read ∙ P.again a rest fa
      | inr fb ↦
          let o = second a fb in
          ap (λ (t : List S). by_first test ra rb (t ++ rest)) o.1 ∙ read_other (lb a) rest o.2 ∙ Q.again a rest fb
    ]

    other_taken : (xs : List S) (a : A) (rest : List S) → rb xs ≡ Ok (a, rest) → F a × (xs ≡ l a ++ rest)
    other_taken xs a rest e =
        let q = Q.takes xs a rest e in
        let o = second a q.0 in
        (o.0, q.1 ∙ ap (λ (t : List S). t ++ rest) (sym o.1))

    first_takes : (xs : List S) (a : A) (rest : List S) → by_first test ra rb xs ≡ Ok (a, rest) → F a × (xs ≡ l a ++ rest)
    first_takes [] a rest e = other_taken [] a rest e
    first_takes (x ∷ xs) a rest e = elim (cases_Bool (test x)) [
      | inl y ↦
          let read : by_first test ra rb (x ∷ xs) ≡ ra xs = rw y refl in
          let p = P.takes xs a rest (sym read ∙ e) in
          let o = first a p.0 in
          (o.0, ap (λ (s : S). s ∷ xs) (only x y) ∙ ap (λ (t : List S). sign ∷ t) p.1 ∙ ap (λ (t : List S). t ++ rest) (sym o.1))
      | inr n ↦
          let read : by_first test ra rb (x ∷ xs) ≡ rb (x ∷ xs) = rw n refl in
          other_taken (x ∷ xs) a rest (sym read ∙ e)
    ]

    -- ---- a fault after the sign

    begun_first : (front : List S) → Begins la Fa front → Begins l F (sign ∷ front)
    begun_first front h =
        let o = first h.value h.fits in
        record { value = h.value; fits = o.0; more = h.more; whole = o.1 ∙ ap (λ (t : List S). sign ∷ t) h.whole }

    ends_first : (front rest : List S) → NoneGoesOn la Fa front rest → NoneGoesOn l F (sign ∷ front) rest
    ends_first front [] none = tt
    ends_first front (x ∷ rest) none = λ h. elim (either h.value h.fits) [
      | inl fa ↦
          let o = first h.value fa in
          let w : sign ∷ la h.value ≡ sign ∷ ((front ++ x ∷ []) ++ h.more) = sym o.1 ∙ h.whole in
          none (record { value = h.value; fits = fa; more = h.more; whole = cc })
      | inr fb ↦
          let o = second h.value fb in
          absurd (otherwise (lb h.value) ((front ++ x ∷ []) ++ h.more) o.2 (sym o.1 ∙ h.whole))
    ]

    stops_first : (x : S) (xs : List S) (left : ℕ) → test x ≡ true → ra xs ≡ Err left → StopsAt l F (x ∷ xs) left
    stops_first x xs left y e =
        let s = P.stops xs left e in
        record {
          front = sign ∷ s.front;
          rest = s.rest;
          left_is = s.left_is;
          stops = record {
            parts = ap (λ (k : S). k ∷ xs) (only x y) ∙ ap (λ (t : List S). sign ∷ t) s.stops.parts;
            begun = begun_first s.front s.stops.begun;
            ends = ends_first s.front s.rest s.stops.ends;
          };
        }

    -- ---- a fault in what begins otherwise

    begun_other : (front : List S) → Begins lb Fb front → Begins l F front
    begun_other front h =
        let o = second h.value h.fits in
        record { value = h.value; fits = o.0; more = h.more; whole = o.1 ∙ h.whole }

    ends_other : (xs front rest : List S) → xs ≡ front ++ rest → NotFirst test xs → NoneGoesOn lb Fb front rest → NoneGoesOn l F front rest
    ends_other xs front [] parts other none = tt
    ends_other xs front (x ∷ rest) parts other none = λ h. elim (either h.value h.fits) [
      | inl fa ↦
          let o = first h.value fa in
          absurd (never_first front x rest h.more (la h.value) xs parts other (sym o.1 ∙ h.whole))
      | inr fb ↦
          let o = second h.value fb in
          none (record { value = h.value; fits = fb; more = h.more; whole = sym o.1 ∙ h.whole })
    ]

    stops_other : (xs : List S) (left : ℕ) → NotFirst test xs → rb xs ≡ Err left → StopsAt l F xs left
    stops_other xs left other e =
        let s = Q.stops xs left e in
        record {
          front = s.front;
          rest = s.rest;
          left_is = s.left_is;
          stops = record {
            parts = s.stops.parts;
            begun = begun_other s.front s.stops.begun;
            ends = ends_other xs s.front s.rest s.stops.parts other s.stops.ends;
          };
        }

    first_stops : (xs : List S) (left : ℕ) → by_first test ra rb xs ≡ Err left → StopsAt l F xs left
    first_stops [] left e = stops_other [] left tt e
    first_stops (x ∷ xs) left e = elim (cases_Bool (test x)) [
      | inl y ↦
          let read : by_first test ra rb (x ∷ xs) ≡ ra xs = rw y refl in
          stops_first x xs left y (sym read ∙ e)
      | inr n ↦
          let read : by_first test ra rb (x ∷ xs) ≡ rb (x ∷ xs) = rw n refl in
          stops_other (x ∷ xs) left n (sym read ∙ e)
    ]

    pub reads_by_first : Reads l F (by_first test ra rb)
    reads_by_first = record { some = P.some; some_fits = (first P.some P.some_fits).0; again = first_again; takes = first_takes; stops = first_stops }
