-- A game of so many rounds has one course, and its best table is one.
use Rattle.std.proofs.Common.{◌≡◌, ℕ, zero, suc, ◌+◌, ◌<◌, ◌≤◌, ◌⊎◌, inl, inr, Option, Some, None, List, [], ◌∷◌, ◌++◌, length, arith, subst, sym, ap, ◌∙◌, refl}
use Rattle.std.specs.List.{All}
use Rattle.std.specs.Prelude.{MatchOption}
use Rattle.std.proofs.lemmas.List.Elements.{All-head, All-tail}
use Rattle.plan_geometry.specs.declared.instances.Inst.{Inst}
use Rattle.weightings.specs.Table.{CellTable}
use Rattle.weightings.specs.Weighting.{IsLeastWeight}
use Rattle.weightings.proofs.LeadSteps.{IsLeastWeight-unique}
use Rattle.dual_search.specs.Rounds.{Stage, weights_at, IsRound, IsGame}
use Rattle.dual_search.specs.Dual.{table_at, HasNoBound, IsNoBetter, IsWorse, IsEarliestBest, IsBestTable, IsDual}
use Rattle.dual_search.specs.Laws.{DualIsOne}
use Rattle.dual_search.proofs.OneRound.{stage-same, one_round}

one_game : (I : Inst) (xs ys : List Stage) → IsGame I xs → IsGame I ys → length xs ≡ length ys → xs ≡ ys
one_game I [] ys a b e = absurd a
one_game I (s ∷ []) [] a b e = absurd b
one_game I (s ∷ []) (t ∷ []) a b e = ap (λ u. u ∷ []) (stage-same s t (a.covers ∙ sym b.covers) (a.weights ∙ sym b.weights))
one_game I (s ∷ []) (t ∷ u ∷ us) a b e = absurd (omega (arith, e))
one_game I (s ∷ r ∷ rs) [] a b e = absurd b
one_game I (s ∷ r ∷ rs) (t ∷ []) a b e = absurd (omega (arith, e))
one_game I (s ∷ r ∷ rs) (t ∷ u ∷ us) a b e =
    let rest : r ∷ rs ≡ u ∷ us = one_game I (r ∷ rs) (u ∷ us) a.1 b.1 (omega (arith, e)) in
    let before : r ≡ u = cc in
    let here : s ≡ t = one_round I u s t (subst (λ v. IsRound I v s) before a.0) b.0 in
    cc

-- an element of a list that stands in two ways
all-at : {X : Type 0} (P : X → Type 0) (xs : List X) (y : X) (ys : List X) → All P (xs ++ y ∷ ys) → P y
all-at P [] y ys h = All-head P y ys h
all-at P (x ∷ xs) y ys h = all-at P xs y ys (All-tail P x (xs ++ y ∷ ys) h)

-- a list is split at y and at v: they are one, or each is on the other side of the other
split-two :
    {X : Type 0} (P Q R S : X → Type 0) (xs us : List X) (y v : X) (ys vs : List X)
    → xs ++ y ∷ ys ≡ us ++ v ∷ vs
    → All P xs
    → All Q ys
    → All R us
    → All S vs
    → (y ≡ v) ⊎ ((P v × S y) ⊎ (Q v × R y))
split-two P Q R S [] [] y v ys vs e p q r s = inl cc
split-two P Q R S [] (u ∷ us) y v ys vs e p q r s =
    let rest : ys ≡ us ++ v ∷ vs = cc in
    let here : u ≡ y = cc in
    inr (inr (all-at Q us v vs (subst (λ zs. All Q zs) rest q), subst (λ z. R z) here (All-head R u us r)))
split-two P Q R S (x ∷ xs) [] y v ys vs e p q r s =
    let here : x ≡ v = cc in
    let rest : vs ≡ xs ++ y ∷ ys = cc in
    inr (inl (subst (λ z. P z) here (All-head P x xs p), all-at S xs y ys (subst (λ zs. All S zs) rest s)))
split-two P Q R S (x ∷ xs) (u ∷ us) y v ys vs e p q r s =
    let rest : xs ++ y ∷ ys ≡ us ++ v ∷ vs = cc in
    split-two P Q R S xs us y v ys vs rest (All-tail P x xs p) q (All-tail R u us r) s

one_best : (I : Inst) (stages : List Stage) (s t : Stage) (n m : ℕ) → IsEarliestBest I stages s n → IsEarliestBest I stages t m → s ≡ t
one_best I stages s t n m a b =
    elim (split-two (IsNoBetter I n) (IsWorse I n) (IsNoBetter I m) (IsWorse I m) a.later b.later s t a.earlier b.earlier
    (sym a.stands ∙ b.stands) a.no_better a.worse b.no_better b.worse) [
      | inl e ↦ e
      | inr p ↦ elim p [
        | inl x ↦ absurd (omega (arith, x.0 m b.is_bound, x.1 n a.is_bound))
        | inr x ↦ absurd (omega (arith, x.0 m b.is_bound, x.1 n a.is_bound))
      ]
    ]

-- where no stage gives a bound, none is the best
none_best : (I : Inst) (stages : List Stage) (t : CellTable) → All (HasNoBound I) stages → IsBestTable I stages t → ⊥
none_best I stages t none b =
    let at : HasNoBound I b.stage = all-at (HasNoBound I) b.best.later b.stage b.best.earlier (subst (λ xs. All (HasNoBound I) xs) b.best.stands none) in
    let w = b.best.is_bound in
    omega (arith, IsLeastWeight-unique I (weights_at I b.stage) w.least 0 w.is_least at, w.some)

pub one_dual : DualIsOne
one_dual I rounds a b h k = go a b h.best (subst (λ xs. MatchOption b (All (HasNoBound I) xs) (λ t. IsBestTable I xs t)) same k.best)
  where
    same : k.stages ≡ h.stages
    same = one_game I k.stages h.stages k.game h.game (k.count ∙ sym h.count)

    go :
        (a b : Option CellTable)
        → MatchOption a (All (HasNoBound I) h.stages) (λ t. IsBestTable I h.stages t)
        → MatchOption b (All (HasNoBound I) h.stages) (λ t. IsBestTable I h.stages t)
        → a ≡ b
    go None None x y = refl
    go None (Some t) x y = absurd (none_best I h.stages t x y)
    go (Some t) None x y = absurd (none_best I h.stages t y x)
    go (Some t) (Some u) x y = ap (λ v. Some v) (x.is ∙ (ap (λ s. table_at I s) (one_best I h.stages x.stage y.stage x.bound y.bound x.best y.best) ∙ sym y.is))
