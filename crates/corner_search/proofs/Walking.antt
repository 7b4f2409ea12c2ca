-- A walk that stands at the end of a path.
use Rattle.std.proofs.Common.{◌≡◌, ◌≢◌, ℕ, suc, ◌+◌, ◌<◌, true, List, [], ◌∷◌, ◌++◌, length, arith, subst, sym, refl, ap, ◌∙◌}
use Rattle.std.proofs.lemmas.Bool.Decides.{nat_tests}
use Rattle.std.specs.Prelude.{map, ◌==◌}
use Rattle.cert_rules.specs.Corner.{State}
use Rattle.cert_rules.specs.Path.{Path, state}
use Rattle.cert_rules.specs.Waiting.{todo, waiting}
use Rattle.weightings.specs.Weighting.{weight_of}
use Rattle.cert_rules.specs.Walk.{Progress, walked, left_after, mark_of, met_one, IsLonger, NoneHas}
use Rattle.corner_search.specs.Visiting.{Visits, marked, left_behind}
use Rattle.corner_search.specs.Search.{EndsIn, EndsWith}
use Rattle.corner_search.specs.declared.search.Visit.{Visit}
use Rattle.corner_search.specs.declared.search.Visit.TheVariants.{Enough, More, Ended}
use Rattle.weightings.specs.declared.kinds.Weighting.{Weighting}
use Rattle.plan_geometry.specs.declared.instances.Inst.{Inst}
use Rattle.cert_rules.specs.declared.steps.Step.{Step}
use Rattle.weightings.specs.declared.certs.Mark.{Mark}
use Rattle.cert_rules.proofs.MarkSteps.{path_is}

-- after k states the walk stands at the end of the path, with the marks of those states
pub record Stands (i : Inst) (w : Weighting) (q n k : ℕ) (steps : List Step) (marks : List Mark) : Type 0 where
  pub here : (walked i (weight_of w) q n k).left ≡ todo i steps
  pub noted : marks ≡ map (mark_of i (weight_of w) q n) (walked i (weight_of w) q n k).met
  pub none : NoneHas (n + 1) (walked i (weight_of w) q n k).met

pub walk_step :
    (i : Inst) (w : Weighting) (q n k : ℕ) (s : State) (rest : List State)
    → (walked i (weight_of w) q n k).left ≡ s ∷ rest
    → walked i (weight_of w) q n (suc k) ≡ record { met = (walked i (weight_of w) q n k).met ++ s ∷ []; left = left_after i (weight_of w) q n s rest }
walk_step i w q n k s rest e = ap (λ (l : List State). met_one i (weight_of w) q n (walked i (weight_of w) q n k).met l) e

NoneHas-push : (m : ℕ) (ss : List State) (s : State) → NoneHas m ss → length s.spots ≢ m → NoneHas m (ss ++ s ∷ [])
NoneHas-push m [] s none ne = (ne, tt)
NoneHas-push m (x ∷ xs) s none ne = (none.0, NoneHas-push m xs s none.1 ne)

map-push : (f : State → Mark) (ss : List State) (s : State) → map f (ss ++ s ∷ []) ≡ map f ss ++ f s ∷ []
map-push f [] s = refl
map-push f (x ∷ xs) s = ap (λ (l : List Mark). f x ∷ l) (map-push f xs s)

-- a found state ends the walk
found_left :
    (i : Inst) (g : ℕ → ℕ → ℕ) (q n : ℕ) (s : State) (rest : List State)
    → length s.spots ≡ n + 1
    → left_after i g q n s rest ≡ []
found_left i g q n s rest e = rw (same (length s.spots) (n + 1) e) refl
  where
    same : (a b : ℕ) → a ≡ b → (a == b) ≡ true
    same a b e = grind (arith, nat_tests)

-- the marks and the states after one more state with fewer cases
pub record Went (i : Inst) (w : Weighting) (q n k : ℕ) (left : List State) (marks : List Mark) : Type 0 where
  pub left_is : (walked i (weight_of w) q n (suc k)).left ≡ left
  pub noted : marks ≡ map (mark_of i (weight_of w) q n) (walked i (weight_of w) q n (suc k)).met
  pub none : NoneHas (n + 1) (walked i (weight_of w) q n (suc k)).met

went :
    (p : Path) (n k : ℕ) (marks all : List Mark) (left : List State)
    → Stands p.inst p.weighting p.least n k p.steps marks
    → (length (state p).spots ≢ n + 1)
    → left_behind p n ≡ left
    → all ≡ marked p n marks
    → Went p.inst p.weighting p.least n k left all
went p n k marks all left stands few behind noted =
    let step = walk_step p.inst p.weighting p.least n k (state p) (waiting p.inst p.steps) stands.here in
    let f = mark_of p.inst (weight_of p.weighting) p.least n in
    record {
      left_is = ap (λ (r : Progress). r.left) step ∙ behind;
      noted =
          noted ∙ (ap (λ (l : List Mark). l ++ f (state p) ∷ []) stands.noted
          ∙ (sym (map-push f (walked p.inst (weight_of p.weighting) p.least n k).met (state p))
          ∙ ap (λ (r : Progress). map f r.met) (sym step)));
      none =
          subst (λ (r : Progress). NoneHas (n + 1) r.met) (sym step)
          (NoneHas-push (n + 1) (walked p.inst (weight_of p.weighting) p.least n k).met (state p) stands.none few);
    }

-- said of the numbers of a path
abbrev pub StandsAt : Path → ℕ → ℕ → List Mark → Type 0
StandsAt p n k marks = Stands p.inst p.weighting p.least n k p.steps marks

pub of_numbers :
    (p : Path) (i : Inst) (w : Weighting) (q n k : ℕ) (marks : List Mark)
    → p.inst ≡ i
    → p.weighting ≡ w
    → p.least ≡ q
    → Stands i w q n k p.steps marks
    → StandsAt p n k marks
of_numbers p i w q n k marks a b d h = subst (λ (x : Path). StandsAt x n k marks) (path_is p i w q a b d) h

pub goes_on :
    (old new : Path) (i : Inst) (w : Weighting) (q n k : ℕ) (marks all : List Mark) (v : Visit)
    → old.inst ≡ i
    → old.weighting ≡ w
    → old.least ≡ q
    → new.inst ≡ old.inst
    → Stands i w q n k old.steps marks
    → v ≡ More
    → Visits old new n marks all v
    → Stands i w q n (k + 1) new.steps all
goes_on old new i w q n k marks all Enough a b d s h is visits = absurd (cc)
goes_on old new i w q n k marks all Ended a b d s h is visits = absurd (cc)
goes_on old new i w q n k marks all More a b d s h is visits =
    let g : Went old.inst old.weighting old.least n k (todo new.inst new.steps) all =
    went old n k marks all (todo new.inst new.steps) (of_numbers old i w q n k marks a b d h) visits.0 visits.1 visits.2 in
    let next : suc k ≡ k + 1 = omega arith in
    let there : Stands old.inst old.weighting old.least n (suc k) new.steps all =
    record { here = g.left_is ∙ ap (λ (x : Inst). todo x new.steps) s; noted = g.noted; none = g.none } in
    let back : Stands i w q n (suc k) new.steps all =
    subst (λ (x : Path). Stands x.inst x.weighting x.least n (suc k) new.steps all) (sym (path_is old i w q a b d)) there in
    subst (λ (x : ℕ). Stands i w q n x new.steps all) next back

pub ended :
    (old new : Path) (i : Inst) (w : Weighting) (q n k budget : ℕ) (marks all : List Mark) (v : Visit)
    → old.inst ≡ i
    → old.weighting ≡ w
    → old.least ≡ q
    → Stands i w q n k old.steps marks
    → k < budget
    → v ≡ Ended
    → Visits old new n marks all v
    → EndsWith i (weight_of w) q n budget all
ended old new i w q n k budget marks all Enough a b d h lt is visits = absurd (cc)
ended old new i w q n k budget marks all More a b d h lt is visits = absurd (cc)
ended old new i w q n k budget marks all Ended a b d h lt is visits =
    let g : Went old.inst old.weighting old.least n k [] all =
    went old n k marks all [] (of_numbers old i w q n k marks a b d h) visits.0 visits.1 visits.2 in
    let back : Went i w q n k [] all =
    subst (λ (x : Path). Went x.inst x.weighting x.least n k [] all) (sym (path_is old i w q a b d)) g in
    record {
      states = suc k;
      within = omega arith;
      met = (walked i (weight_of w) q n (suc k)).met;
      whole = ap (λ (l : List State). record { met = (walked i (weight_of w) q n (suc k)).met; left = l }) back.left_is;
      noted = back.noted;
      none = back.none;
    }

pub enough :
    (old new : Path) (i : Inst) (w : Weighting) (q n k budget : ℕ) (marks all : List Mark) (v : Visit)
    → old.inst ≡ i
    → old.weighting ≡ w
    → old.least ≡ q
    → Stands i w q n k old.steps marks
    → k < budget
    → v ≡ Enough
    → Visits old new n marks all v
    → EndsIn i (weight_of w) q n budget (state new)
enough old new i w q n k budget marks all More a b d h lt is visits = absurd (cc)
enough old new i w q n k budget marks all Ended a b d h lt is visits = absurd (cc)
enough old new i w q n k budget marks all Enough a b d h lt is visits =
    let at : StandsAt old n k marks = of_numbers old i w q n k marks a b d h in
    let step : walked old.inst (weight_of old.weighting) old.least n (suc k)
    ≡ record { met = (walked old.inst (weight_of old.weighting) old.least n k).met ++ state old ∷ []; left = [] } =
    walk_step old.inst old.weighting old.least n k (state old) (waiting old.inst old.steps) at.here
    ∙ ap (λ (l : List State). record { met = (walked old.inst (weight_of old.weighting) old.least n k).met ++ state old ∷ []; left = l })
    (found_left old.inst (weight_of old.weighting) old.least n (state old) (waiting old.inst old.steps) visits.0) in
    let answer : EndsIn old.inst (weight_of old.weighting) old.least n budget (state old) =
    record {
      states = suc k;
      within = omega arith;
      before = (walked old.inst (weight_of old.weighting) old.least n k).met;
      whole = step;
      enough = visits.0;
    } in
    subst (λ (x : Path). EndsIn i (weight_of w) q n budget (state x)) (sym visits.1)
    (subst (λ (x : Path). EndsIn x.inst (weight_of x.weighting) x.least n budget (state old)) (sym (path_is old i w q a b d)) answer)

pub longer :
    (i : Inst) (w : Weighting) (q n k : ℕ) (steps : List Step) (marks : List Mark)
    → Stands i w q n k steps marks
    → IsLonger i (weight_of w) q n k
longer i w q n k steps marks h = λ e. absurd (cc (h.here, e))
