-- Lists of cases.
use Rattle.std.proofs.Common.{◌≡◌, ◌≢◌, ℕ, ◌+◌, ◌⊎◌, inl, inr, List, [], ◌∷◌, ◌++◌, length, arith, refl, ap, length-append}
use Rattle.std.proofs.lemmas.Bool.{cases_lt}
use Rattle.plan_geometry.specs.Layout.{IsInside, IsLawfulWay, AreApart}
use Rattle.plan_geometry.proofs.Recursive.{Each, IsLayoutRec}
use Rattle.plan_geometry.specs.declared.instances.Inst.{Inst}
use Rattle.plan_geometry.specs.declared.spots.Spot.{Spot}

-- a list with one case in its midst
pub record Split (P : Spot → Type 0) (ss : List Spot) : Type 0 where
  pub before : List Spot
  pub it : Spot
  pub later : List Spot
  pub whole : ss ≡ before ++ it ∷ later
  pub holds : P it

eq_or_not : (a b : ℕ) → (a ≡ b) ⊎ (a ≢ b)
eq_or_not a b =
    elim (cases_lt a b) [
      | inl l ↦ inr (omega arith)
      | inr g ↦ elim (cases_lt b a) [ inl l ↦ inr (omega arith) | inr h ↦ inl (omega arith) ]
    ]

-- the case has its lower left corner at the place
abbrev pub StandsAt : ℕ → ℕ → Spot → Type 0
StandsAt x y s = (s.x ≡ x) × (s.y ≡ y)

-- some case stands at the place, or none does
pub find_spot : (x y : ℕ) (ss : List Spot) → (Split (StandsAt x y) ss) ⊎ (Each (λ s. StandsAt x y s → ⊥) ss)
find_spot x y [] = inr tt
find_spot x y (s ∷ ss) =
    elim (eq_or_not s.x x) [
      | inl ex ↦
          elim (eq_or_not s.y y) [
            | inl ey ↦ inl (record { before = []; it = s; later = ss; whole = refl; holds = (ex, ey) })
            | inr ny ↦ further x y s ss (λ h. ny h.1) (find_spot x y ss)
          ]
      | inr nx ↦ further x y s ss (λ h. nx h.0) (find_spot x y ss)
    ]
  where
    further :
        (x y : ℕ) (s : Spot) (ss : List Spot)
        → (StandsAt x y s → ⊥)
        → (Split (StandsAt x y) ss) ⊎ (Each (λ s. StandsAt x y s → ⊥) ss)
        → (Split (StandsAt x y) (s ∷ ss)) ⊎ (Each (λ s. StandsAt x y s → ⊥) (s ∷ ss))
    further x y s ss not_s (inl p) =
        inl (record { before = s ∷ p.before; it = p.it; later = p.later; whole = ap (λ (l : List Spot). s ∷ l) p.whole; holds = p.holds })
    further x y s ss not_s (inr q) = inr (not_s, q)

pub Each-split : (P : Spot → Type 0) (xs : List Spot) (s : Spot) (ys : List Spot) → Each P (xs ++ s ∷ ys) → P s × Each P (xs ++ ys)
Each-split P [] s ys all = all
Each-split P (x ∷ xs) s ys all =
    let rest = Each-split P xs s ys all.1 in (rest.0, (all.0, rest.1))

pub Apart-sym : (i : Inst) (s t : Spot) → AreApart i s t → AreApart i t s
Apart-sym i s t (inl a) = inr (inl a)
Apart-sym i s t (inr (inl a)) = inl a
Apart-sym i s t (inr (inr (inl a))) = inr (inr (inr a))
Apart-sym i s t (inr (inr (inr a))) = inr (inr (inl a))

-- what a layout with a case in its midst gives
pub record TakenOut (i : Inst) (s : Spot) (rest : List Spot) : Type 0 where
  pub inside : IsInside i s
  pub lawful : IsLawfulWay i s.way
  pub apart : Each (AreApart i s) rest
  pub layout : IsLayoutRec i rest

pub Layout-split : (i : Inst) (xs : List Spot) (s : Spot) (ys : List Spot) → IsLayoutRec i (xs ++ s ∷ ys) → TakenOut i s (xs ++ ys)
Layout-split i [] s ys layout = record { inside = layout.0; lawful = layout.1; apart = layout.2; layout = layout.3 }
Layout-split i (x ∷ xs) s ys layout =
    let rest = Layout-split i xs s ys layout.3 in
    let far = Each-split (AreApart i x) xs s ys layout.2 in
    record {
      inside = rest.inside;
      lawful = rest.lawful;
      apart = (Apart-sym i x s far.0, rest.apart);
      layout = (layout.0, layout.1, far.1, rest.layout);
    }

-- what follows for each case from two facts on each
pub Each-both : (P Q R : Spot → Type 0) (ss : List Spot) → ((s : Spot) → P s → Q s → R s) → Each P ss → Each Q ss → Each R ss
Each-both P Q R [] f p q = tt
Each-both P Q R (s ∷ ss) f p q = (f s p.0 q.0, Each-both P Q R ss f p.1 q.1)

pub Each-from-Layout : (i : Inst) (ss : List Spot) → IsLayoutRec i ss → Each (λ s. IsInside i s × IsLawfulWay i s.way) ss
Each-from-Layout i [] layout = tt
Each-from-Layout i (s ∷ ss) layout = ((layout.0, layout.1), Each-from-Layout i ss layout.3)

pub length-split : (xs : List Spot) (s : Spot) (ys : List Spot) → length (xs ++ s ∷ ys) ≡ length (xs ++ ys) + 1
length-split xs s ys = simp length-append (omega arith)
