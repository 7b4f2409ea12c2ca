-- One of a few words.
use Rattle.std.proofs.Common.{◌≡◌, ℕ, ◌⊎◌, List, Option, Some, None, refl, ap, ◌∙◌, Bool, true, false, cond, inl, inr}
use Rattle.std.specs.Str.{bytes_eq}
use Rattle.std.proofs.lemmas.Slice.Eq.{bytes_eq-Decides}
use Rattle.texts.proofs.Parsers.{some_is, guard_some}

pub pick : {X : Type 0} (b : Bool) (x y z : X) → cond b x y ≡ z → ((b ≡ true) × (x ≡ z)) ⊎ ((b ≡ false) × (y ≡ z))
pick true x y z e = inl (refl, e)
pick false x y z e = inr (refl, e)

-- what one of three words says
abbrev pub three_of : {A : Type 0} → List ℕ → List ℕ → List ℕ → A → A → A → List ℕ → Option A
three_of t1 t2 t3 a1 a2 a3 w = cond (bytes_eq w t1) (Some a1) (cond (bytes_eq w t2) (Some a2) (cond (bytes_eq w t3) (Some a3) None))

pub three_is : {A : Type 0} (text : A → List ℕ) (a1 a2 a3 : A) (w : List ℕ) (a : A) → three_of (text a1) (text a2) (text a3) a1 a2 a3 w ≡ Some a → w ≡ text a
three_is {A} text a1 a2 a3 w a e =
    elim (pick (bytes_eq w (text a1)) (Some a1) (cond (bytes_eq w (text a2)) (Some a2) (cond (bytes_eq w (text a3)) (Some a3) None)) (Some a) e) [
      | inl p ↦ (bytes_eq-Decides w (text a1)).0 p.0 ∙ ap text (some_is a1 a p.1)
      | inr q ↦ elim (pick (bytes_eq w (text a2)) (Some a2) (cond (bytes_eq w (text a3)) (Some a3) None) (Some a) q.1) [
        | inl p ↦ (bytes_eq-Decides w (text a2)).0 p.0 ∙ ap text (some_is a2 a p.1)
        | inr r ↦ let g = guard_some (bytes_eq w (text a3)) a3 a r.1 in (bytes_eq-Decides w (text a3)).0 g.0 ∙ ap text g.1
      ]
    ]

abbrev pub Any : {A : Type 0} → A → Type 0
Any a = Unit {0}

-- what one of four words says
abbrev pub four_of : {A : Type 0} → List ℕ → List ℕ → List ℕ → List ℕ → A → A → A → A → List ℕ → Option A
four_of t1 t2 t3 t4 a1 a2 a3 a4 w = cond (bytes_eq w t1) (Some a1) (three_of t2 t3 t4 a2 a3 a4 w)

pub four_is : {A : Type 0} (text : A → List ℕ) (a1 a2 a3 a4 : A) (w : List ℕ) (a : A) → four_of (text a1) (text a2) (text a3) (text a4) a1 a2 a3 a4 w ≡ Some a → w ≡ text a
four_is {A} text a1 a2 a3 a4 w a e =
    elim (pick (bytes_eq w (text a1)) (Some a1) (three_of (text a2) (text a3) (text a4) a2 a3 a4 w) (Some a) e) [
      | inl p ↦ (bytes_eq-Decides w (text a1)).0 p.0 ∙ ap text (some_is a1 a p.1)
      | inr q ↦ three_is text a2 a3 a4 w a q.1
    ]

-- what one of five words says
abbrev pub five_of : {A : Type 0} → List ℕ → List ℕ → List ℕ → List ℕ → List ℕ → A → A → A → A → A → List ℕ → Option A
five_of t1 t2 t3 t4 t5 a1 a2 a3 a4 a5 w = cond (bytes_eq w t1) (Some a1) (four_of t2 t3 t4 t5 a2 a3 a4 a5 w)

pub five_is : {A : Type 0} (text : A → List ℕ) (a1 a2 a3 a4 a5 : A) (w : List ℕ) (a : A) → five_of (text a1) (text a2) (text a3) (text a4) (text a5) a1 a2 a3 a4 a5 w ≡ Some a → w ≡ text a
five_is {A} text a1 a2 a3 a4 a5 w a e =
    elim (pick (bytes_eq w (text a1)) (Some a1) (four_of (text a2) (text a3) (text a4) (text a5) a2 a3 a4 a5 w) (Some a) e) [
      | inl p ↦ (bytes_eq-Decides w (text a1)).0 p.0 ∙ ap text (some_is a1 a p.1)
      | inr q ↦ four_is text a2 a3 a4 a5 w a q.1
    ]
