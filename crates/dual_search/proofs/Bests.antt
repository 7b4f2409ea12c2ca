-- The earliest best stage of a game, with one stage more.
use Rattle.std.proofs.Common.{◌≡◌, ℕ, ◌/◌, ◌<◌, ◌≤◌, List, [], ◌∷◌, ◌++◌, Option, Some, None, arith, subst, sym, ap, refl}
use Rattle.std.specs.List.{All}
use Rattle.std.proofs.lemmas.List.Elements.{All-nil, All-cons, All-append, All-weaker}
use Rattle.plan_geometry.specs.declared.instances.Inst.{Inst}
use Rattle.plan_geometry.specs.Weight.{total_weight}
use Rattle.weightings.specs.Weighting.{IsLeastWeight, IsWeightBound}
use Rattle.weightings.proofs.LeadSteps.{IsLeastWeight-unique, IsWeightBound-unique}
use Rattle.dual_search.specs.declared.positions.Lightest.{Lightest}
use Rattle.dual_search.specs.declared.duals.Best.{Best}
use Rattle.dual_search.specs.Positions.{IsLightest}
use Rattle.dual_search.specs.Rounds.{Stage, weights_at}
use Rattle.dual_search.specs.Dual.{HasNoBound, IsNoBetter, IsWorse, IsEarliestBest, IsBestSoFar}

pub least-weight : (I : Inst) (g : ℕ → ℕ → ℕ) (l : Lightest) → IsLightest I g l → IsLeastWeight I g l.weight
least-weight I g l h = record {
  bound = λ s inside lawful. omega (arith, h.spot.least s inside lawful, h.weighs);
  spot = l.spot;
  inside = h.spot.inside;
  lawful = h.spot.lawful;
  reached = h.weighs;
}

pub bound-is :
    (I : Inst) (s : Stage) (total least : ℕ)
    → total_weight (weights_at I s) I ≡ total
    → IsLeastWeight I (weights_at I s) least
    → 0 < least
    → IsWeightBound I (weights_at I s) (total / least)
bound-is I s total least e q some = record { least = least; is_least = q; some = some; value = ap (λ t. t / least) (sym e) }

-- what gives no bound gives no better one
none-better : (I : Inst) (s : Stage) (n : ℕ) → HasNoBound I s → IsNoBetter I n s
none-better I s n zero_least m w =
    absurd (omega (arith, IsLeastWeight-unique I (weights_at I s) w.least 0 w.is_least zero_least, w.some))

none-worse : (I : Inst) (n : ℕ) (s : Stage) → HasNoBound I s → IsWorse I n s
none-worse I n s zero_least m w =
    absurd (omega (arith, IsLeastWeight-unique I (weights_at I s) w.least 0 w.is_least zero_least, w.some))

kept : (I : Inst) (s : Stage) (older : List Stage) (best : Stage) (n : ℕ) → IsNoBetter I n s → IsEarliestBest I older best n → IsEarliestBest I (s ∷ older) best n
kept I s older best n unfit b = record {
  later = s ∷ b.later;
  earlier = b.earlier;
  stands = ap (λ xs. s ∷ xs) b.stands;
  is_bound = b.is_bound;
  no_better = All-cons (IsNoBetter I n) s b.later unfit b.no_better;
  worse = b.worse;
}

-- weights that give no bound
pub so_far-none : (I : Inst) (s : Stage) (older : List Stage) (best : Option Best) → HasNoBound I s → IsBestSoFar I older best → IsBestSoFar I (s ∷ older) best
so_far-none I s older None unfit all = All-cons (HasNoBound I) s older unfit all
so_far-none I s older (Some b) unfit x = (x.0, kept I s older x.0 b.bound (none-better I s b.bound unfit) x.1, x.2)

-- weights that give a bound that is not below the best
pub so_far-kept :
    (I : Inst) (s : Stage) (older : List Stage) (b : Best) (n : ℕ)
    → IsWeightBound I (weights_at I s) n
    → b.bound ≤ n
    → IsBestSoFar I older (Some b)
    → IsBestSoFar I (s ∷ older) (Some b)
so_far-kept I s older b n w le x =
    (x.0, kept I s older x.0 b.bound (λ m v. omega (arith, IsWeightBound-unique I (weights_at I s) m n v w, le)) x.1, x.2)

first-best : (I : Inst) (s : Stage) (older : List Stage) (n : ℕ) → IsWeightBound I (weights_at I s) n → All (IsWorse I n) older → IsEarliestBest I (s ∷ older) s n
first-best I s older n w worse = record {
  later = [];
  earlier = older;
  stands = refl;
  is_bound = w;
  no_better = All-nil (IsNoBetter I n);
  worse = worse;
}

-- the first weights that give a bound
pub so_far-first :
    (I : Inst) (s : Stage) (older : List Stage) (new : Best)
    → IsWeightBound I (weights_at I s) new.bound
    → new.cells.items ≡ s.weights
    → IsBestSoFar I older None
    → IsBestSoFar I (s ∷ older) (Some new)
so_far-first I s older new w e all =
    (s, first-best I s older new.bound w (All-weaker (HasNoBound I) (IsWorse I new.bound) (λ t unfit. none-worse I new.bound t unfit) older all), e)

-- weights that give a lesser bound than the best
pub so_far-better :
    (I : Inst) (s : Stage) (older : List Stage) (b new : Best)
    → IsWeightBound I (weights_at I s) new.bound
    → new.bound < b.bound
    → new.cells.items ≡ s.weights
    → IsBestSoFar I older (Some b)
    → IsBestSoFar I (s ∷ older) (Some new)
so_far-better I s older b new w lt e x =
    let best = x.1 in
    let after : All (IsWorse I new.bound) best.later =
    All-weaker (IsNoBetter I b.bound) (IsWorse I new.bound) (λ t unfit m v. omega (arith, unfit m v, lt)) best.later best.no_better in
    let at : IsWorse I new.bound x.0 = λ m v. omega (arith, IsWeightBound-unique I (weights_at I x.0) m b.bound v best.is_bound, lt) in
    let before : All (IsWorse I new.bound) best.earlier =
    All-weaker (IsWorse I b.bound) (IsWorse I new.bound) (λ t unfit m v. omega (arith, unfit m v, lt)) best.earlier best.worse in
    let all : All (IsWorse I new.bound) (best.later ++ x.0 ∷ best.earlier) =
    All-append (IsWorse I new.bound) best.later (x.0 ∷ best.earlier) after (All-cons (IsWorse I new.bound) x.0 best.earlier at before) in
    (s, first-best I s older new.bound w (subst (λ xs. All (IsWorse I new.bound) xs) (sym best.stands) all), e)
