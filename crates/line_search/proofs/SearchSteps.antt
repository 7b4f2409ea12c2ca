-- Better and better tables.
use Rattle.std.proofs.Common.{◌≡◌, ℕ, ◌<◌, ◌≤◌, inl, inr, Option, Some, None, sym, ap, subst, arith}
use Rattle.std.specs.Option.{IfSome}
use Rattle.line_search.specs.declared.search.Bounding.{Bounding}
use Rattle.line_search.specs.Search.{Found, IsLesser, IsImproved}

lower : (a : Option Bounding) (m n : ℕ) → m ≤ n → IfSome a (λ x. n < x.bound) → IfSome a (λ x. m < x.bound)
lower None m n le h = tt
lower (Some x) m n le h = omega (arith, le, h)

-- what is improved twice is improved
pub improved-again : (known : ℕ) (a b c : Option Bounding) → IsImproved known a b → IsImproved known b c → IsImproved known a c
improved-again known a b c h (inl e) = subst (IsImproved known a) (sym e) h
improved-again known a b c (inl e) (inr l) = inr (subst (λ o. IsLesser known o c) e l)
improved-again known a b c (inr h) (inr l) = inr (record {
  best = l.best;
  is_best = l.is_best;
  below_known = l.below_known;
  below_before = lower a l.best.bound h.best.bound (let less : l.best.bound < h.best.bound = subst (λ o. IfSome o (λ x. l.best.bound < x.bound)) h.is_best l.below_before in omega arith) h.below_before;
})

lower-or-equal : (a : Option Bounding) (m n : ℕ) → m < n → IfSome a (λ x. n ≤ x.bound) → IfSome a (λ x. m < x.bound)
lower-or-equal None m n l h = tt
lower-or-equal (Some x) m n l h = omega (arith, l, h)

-- a table with a lesser bound than the least that is known
pub improved-by : (known least : ℕ) (before after : Option Bounding) (b : Bounding) → after ≡ Some b → b.bound < least → least ≤ known → IfSome before (λ x. least ≤ x.bound) → IsImproved known before after
improved-by known least before after b e less low h = inr (record {
  best = b;
  is_best = e;
  below_known = omega arith;
  below_before = lower-or-equal before b.bound least less h;
})

pub best-of-same : (s t : Found) → s ≡ t → s.best ≡ t.best
best-of-same s t e = ap (λ (f : Found). f.best) e

pub limit-of-same : (s t : Found) → s ≡ t → s.limit ≡ t.limit
limit-of-same s t e = ap (λ (f : Found). f.limit) e
