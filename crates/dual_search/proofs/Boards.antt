-- What is kept of a game: the covers and weights of the cells, and the weights of all positions.
use Rattle.std.proofs.Common.{◌≡◌, ℕ, ◌+◌, ◌*◌, ◌/◌, ◌%◌, ◌<◌, ◌≤◌, inl, inr, List, [], ◌∷◌, Option, None, length, get_or, set, replicate, arith, subst, sym, ap, ◌∙◌, refl}
use Rattle.std.proofs.lemmas.Bool.{cases_eq, cases_lt}
use Rattle.std.proofs.lemmas.List.{length-replicate, length-set, get_or-set_same, get_or-set_other, get_or_past}
use Rattle.std.proofs.lemmas.List.Elements.{All-nil, All-from_get_or}
use Rattle.plan_geometry.specs.declared.spots.Axis.TheVariants.{X, Y}
use Rattle.plan_geometry.specs.declared.spots.Spot.{Spot}
use Rattle.plan_geometry.specs.declared.spots.Way.TheVariants.{Lying, Standing}
use Rattle.plan_geometry.specs.declared.instances.Inst.{Inst}
use Rattle.plan_geometry.specs.Layout.{Covers}
use Rattle.plan_geometry.specs.Weight.{total_weight}
use Rattle.weightings.specs.Table.{cell_in, IsTable}
use Rattle.dual_search.specs.Raising.{Raises, RiseByOne, IsFirstGreatestPlace}
use Rattle.weightings.specs.Weighting.{IsLeastWeight}
use Rattle.dual_search.specs.declared.duals.Best.{Best}
use Rattle.dual_search.specs.declared.positions.Lightest.{Lightest}
use Rattle.dual_search.specs.Positions.{places, HoldWeights, IsFirstLightest, IsLightest}
use Rattle.dual_search.specs.Rounds.{Stage, weights_at, IsStart, IsRound, IsGame}
use Rattle.dual_search.specs.Dual.{HasNoBound, IsBestSoFar, HoldsTable, IsPlayed}
use Rattle.dual_search.proofs.Bests.{least-weight}
use Rattle.dual_search.proofs.Cells.{total-more}
use Rattle.dual_search.proofs.Held.{zeros, zeros-at, zeros-total, held-start, cell-at}

-- no entry is above n
abbrev pub AreAtMost : ℕ → List ℕ → Type 0
AreAtMost n xs = (k : ℕ) → get_or xs k 0 ≤ n

-- after k rounds
pub record IsBoard (I : Inst) (k : ℕ) (covers weights lying standing : List ℕ) : Type 0 where
  pub covers_count : length covers ≡ I.l_side * I.w_side
  pub weights_count : length weights ≡ I.l_side * I.w_side
  pub small_covers : AreAtMost k covers
  pub small_weights : AreAtMost k weights
  pub small_lying : AreAtMost k lying
  pub small_standing : AreAtMost k standing
  pub holds_lying : HoldWeights I Lying (cell_in I.l_side weights) lying
  pub holds_standing : HoldWeights I Standing (cell_in I.l_side weights) standing
  pub total : total_weight (cell_in I.l_side weights) I ≡ k

zeros-most : (n : ℕ) → AreAtMost 0 (zeros n)
zeros-most n k = omega (arith, zeros-at n k)

most-same : (n : ℕ) (xs ys : List ℕ) → ys ≡ xs → AreAtMost n xs → AreAtMost n ys
most-same n xs ys e h = subst (λ zs. AreAtMost n zs) (sym e) h

most-rise : (n : ℕ) (old new : List ℕ) → RiseByOne old new → AreAtMost n old → AreAtMost (n + 1) new
most-rise n old new rise h k = omega (arith, rise k, h k)

most-set : (n cell : ℕ) (xs : List ℕ) → AreAtMost n xs → AreAtMost (n + 1) (set xs cell (get_or xs cell 0 + 1))
most-set n cell xs h k =
    elim (cases_eq k cell) [
      | inl e ↦ elim (cases_lt cell (length xs)) [
        | inl lt ↦
            let at : get_or (set xs cell (get_or xs cell 0 + 1)) k 0 ≡ get_or xs cell 0 + 1 =
            ap (λ j. get_or (set xs cell (get_or xs cell 0 + 1)) j 0) e ∙ get_or-set_same xs cell (get_or xs cell 0 + 1) 0 lt in
            omega (arith, at, h cell)
        | inr past ↦
            let out : get_or (set xs cell (get_or xs cell 0 + 1)) k 0 ≡ 0 =
            get_or_past (set xs cell (get_or xs cell 0 + 1)) k 0 (omega (arith, e, past, length-set xs cell (get_or xs cell 0 + 1))) in
            omega (arith, out)
      ]
      | inr ne ↦
          let same = get_or-set_other xs cell k (get_or xs cell 0 + 1) 0 ne in
          omega (arith, same, h k)
    ]

pub board-start :
    (I : Inst) (covers weights lying standing : List ℕ)
    → IsStart I (record { covers = covers; weights = weights })
    → lying ≡ replicate (places X I Lying * places Y I Lying) 0
    → standing ≡ replicate (places X I Standing * places Y I Standing) 0
    → IsBoard I 0 covers weights lying standing
board-start I covers weights lying standing s el es = record {
  covers_count = ap length s.covers ∙ length-replicate (I.l_side * I.w_side) 0;
  weights_count = ap length s.weights ∙ length-replicate (I.l_side * I.w_side) 0;
  small_covers = most-same 0 (zeros (I.l_side * I.w_side)) covers s.covers (zeros-most (I.l_side * I.w_side));
  small_weights = most-same 0 (zeros (I.l_side * I.w_side)) weights s.weights (zeros-most (I.l_side * I.w_side));
  small_lying = most-same 0 (zeros (places X I Lying * places Y I Lying)) lying el (zeros-most (places X I Lying * places Y I Lying));
  small_standing = most-same 0 (zeros (places X I Standing * places Y I Standing)) standing es (zeros-most (places X I Standing * places Y I Standing));
  holds_lying = subst (λ ws. HoldWeights I Lying (cell_in I.l_side ws) lying) (sym s.weights)
      (subst (λ ps. HoldWeights I Lying (cell_in I.l_side (zeros (I.l_side * I.w_side))) ps) (sym el) (held-start I Lying (I.l_side * I.w_side)));
  holds_standing = subst (λ ws. HoldWeights I Standing (cell_in I.l_side ws) standing) (sym s.weights)
      (subst (λ ps. HoldWeights I Standing (cell_in I.l_side (zeros (I.l_side * I.w_side))) ps) (sym es) (held-start I Standing (I.l_side * I.w_side)));
  total = ap (λ ws. total_weight (cell_in I.l_side ws) I) s.weights ∙ zeros-total I (I.l_side * I.w_side);
}

-- one round more
pub board-more :
    (I : Inst) (k cell : ℕ) (spot : Spot) (covers weights lying standing new_covers new_weights new_lying new_standing : List ℕ)
    → IsBoard I k covers weights lying standing
    → cell < I.l_side * I.w_side
    → Raises I.l_side (Covers I spot) covers new_covers
    → RiseByOne covers new_covers
    → new_weights ≡ set weights cell (get_or weights cell 0 + 1)
    → ((cells : List ℕ) → length cells ≡ I.l_side * I.w_side → HoldWeights I Lying (cell_in I.l_side cells) lying
    → HoldWeights I Lying (cell_in I.l_side (set cells cell (get_or cells cell 0 + 1))) new_lying)
    → RiseByOne lying new_lying
    → ((cells : List ℕ) → length cells ≡ I.l_side * I.w_side → HoldWeights I Standing (cell_in I.l_side cells) standing
    → HoldWeights I Standing (cell_in I.l_side (set cells cell (get_or cells cell 0 + 1))) new_standing)
    → RiseByOne standing new_standing
    → IsBoard I (k + 1) new_covers new_weights new_lying new_standing
board-more I k cell spot covers weights lying standing new_covers new_weights new_lying new_standing b lt raised rise e hl rl hs rs = record {
  covers_count = raised.count ∙ b.covers_count;
  weights_count = ap length e ∙ (length-set weights cell (get_or weights cell 0 + 1) ∙ b.weights_count);
  small_covers = most-rise k covers new_covers rise b.small_covers;
  small_weights = most-same (k + 1) (set weights cell (get_or weights cell 0 + 1)) new_weights e (most-set k cell weights b.small_weights);
  small_lying = most-rise k lying new_lying rl b.small_lying;
  small_standing = most-rise k standing new_standing rs b.small_standing;
  holds_lying = subst (λ ws. HoldWeights I Lying (cell_in I.l_side ws) new_lying) (sym e) (hl weights b.weights_count b.holds_lying);
  holds_standing = subst (λ ws. HoldWeights I Standing (cell_in I.l_side ws) new_standing) (sym e) (hs weights b.weights_count b.holds_standing);
  total =
      let at = cell-at I cell lt in
      let more = total-more I cell (cell % I.l_side) (cell / I.l_side) weights at.0 (omega (arith, lt, b.weights_count)) at.1 in
      ap (λ ws. total_weight (cell_in I.l_side ws) I) e ∙ (more ∙ ap (λ n. n + 1) b.total);
}

pub round-is :
    (I : Inst) (cell : ℕ) (spot : Spot) (covers weights new_covers new_weights : List ℕ)
    → IsFirstLightest I (cell_in I.l_side weights) spot
    → Raises I.l_side (Covers I spot) covers new_covers
    → IsFirstGreatestPlace new_covers cell
    → new_weights ≡ set weights cell (get_or weights cell 0 + 1)
    → IsRound I (record { covers = covers; weights = weights }) (record { covers = new_covers; weights = new_weights })
round-is I cell spot covers weights new_covers new_weights l raised g e = record {
  spot = spot;
  lightest = l;
  covered = raised;
  cell = cell;
  most_covered = g;
  raised = e;
}

pub board-table : (I : Inst) (k : ℕ) (covers weights lying standing : List ℕ) → IsBoard I k covers weights lying standing → k ≤ 2000 → I.l_side * I.w_side ≤ 40000 → IsTable I.l_side I.w_side weights
board-table I k covers weights lying standing b le few = record {
  some_x = omega (arith, I.sides.l_min);
  some_y = omega (arith, I.sides.w_min);
  few = few;
  count = b.weights_count;
  light = All-from_get_or (λ weight. weight ≤ 100000) weights 0 (λ i lt. omega (arith, b.small_weights i, le));
}

-- the stages of a game so far, and the best of them
pub record IsSoFar (I : Inst) (k : ℕ) (covers weights : List ℕ) (best : Option Best) : Type 0 where
  pub older : List Stage
  pub game : IsGame I (record { covers = covers; weights = weights } ∷ older)
  pub count : length older ≡ k
  pub is_best : IsBestSoFar I (record { covers = covers; weights = weights } ∷ older) best

-- what one look at the weights tells of the best
abbrev pub Looks : Inst → ℕ → ℕ → List ℕ → Option Best → Option Best → Type 0
Looks I total least weights old new =
    (s : Stage) (older : List Stage) → s.weights ≡ weights
    → total_weight (weights_at I s) I ≡ total
    → IsLeastWeight I (weights_at I s) least
    → IsBestSoFar I older old
    → IsBestSoFar I (s ∷ older) new

pub so_far-start :
    (I : Inst) (covers weights lying standing : List ℕ) (found : Lightest) (best : Option Best)
    → IsStart I (record { covers = covers; weights = weights })
    → IsBoard I 0 covers weights lying standing
    → IsLightest I (cell_in I.l_side weights) found
    → Looks I 0 found.weight weights None best
    → IsSoFar I 0 covers weights best
so_far-start I covers weights lying standing found best start board l looks =
    let s : Stage = record { covers = covers; weights = weights } in
    record {
      older = [];
      game = start;
      count = refl;
      is_best = looks s [] refl board.total (least-weight I (cell_in I.l_side weights) found l) (All-nil (HasNoBound I));
    }

pub so_far-more :
    (I : Inst) (k : ℕ) (covers weights new_covers new_weights lying standing : List ℕ) (found : Lightest) (old best : Option Best)
    → IsSoFar I k covers weights old
    → IsRound I (record { covers = covers; weights = weights }) (record { covers = new_covers; weights = new_weights })
    → IsBoard I (k + 1) new_covers new_weights lying standing
    → IsLightest I (cell_in I.l_side new_weights) found
    → Looks I (k + 1) found.weight new_weights old best
    → IsSoFar I (k + 1) new_covers new_weights best
so_far-more I k covers weights new_covers new_weights lying standing found old best so round board l looks =
    let s : Stage = record { covers = new_covers; weights = new_weights } in
    let before : Stage = record { covers = covers; weights = weights } in
    record {
      older = before ∷ so.older;
      game = (round, so.game);
      count = omega (arith, so.count);
      is_best = looks s (before ∷ so.older) refl board.total (least-weight I (cell_in I.l_side new_weights) found l) so.is_best;
    }

pub played-all :
    (I : Inst) (rounds k : ℕ) (covers weights : List ℕ) (best : Option Best)
    → IsSoFar I k covers weights best
    → k ≡ rounds
    → HoldsTable I best
    → IsPlayed I rounds best
played-all I rounds k covers weights best so e t = record {
  stages = record { covers = covers; weights = weights } ∷ so.older;
  game = so.game;
  count = omega (arith, so.count, e);
  is_best = so.is_best;
  table = t;
}
