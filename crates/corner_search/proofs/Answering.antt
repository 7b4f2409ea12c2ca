-- The answer of a walk, said of the numbers that its path was made of.
use Rattle.std.proofs.Common.{◌≡◌, ℕ, zero, suc, ◌+◌, ◌<◌, ◌≤◌, List, [], ◌∷◌, ◌++◌, length, arith, subst, sym, ap, ◌∙◌, length-append, append-nil}
use Rattle.std.proofs.lemmas.List.{length-map}
use Rattle.std.specs.Prelude.{map, IsPermutation}
use Rattle.std.proofs.lemmas.List.Sorted.{length_permutation}
use Rattle.plan_geometry.specs.declared.instances.Inst.{Inst}
use Rattle.plan_geometry.specs.Placed.{Placed, IsLayer}
use Rattle.weightings.specs.declared.certs.Mark.{Mark}
use Rattle.weightings.specs.declared.kinds.Weighting.{Weighting}
use Rattle.weightings.specs.Weighting.{weight_of}
use Rattle.cert_rules.specs.Corner.{State}
use Rattle.cert_rules.specs.Path.{Path, IsPath, state}
use Rattle.cert_rules.specs.Refute.{Refutes, RefutesEach}
use Rattle.cert_rules.specs.Walk.{Progress, walked, met_one, mark_of, NoneHas}
use Rattle.cert_rules.proofs.Refuting.{refutes_bounds}
use Rattle.cert_rules.proofs.Whole.{walked-refutes}
use Rattle.corner_search.specs.Search.{EndsWith, IsAnswer, Tells}
use Rattle.corner_search.specs.Visiting.{Concludes}
use Rattle.corner_search.specs.declared.search.Walk.TheVariants.{Refuted, Found, Spent}
use Rattle.corner_search.specs.declared.search.Outcome.{Outcome}
use Rattle.corner_search.specs.declared.search.Outcome.TheVariants.{Enough as HadEnough, Ended as HasEnded, Spent as HasSpent}

-- no more states are met than there were turns
met-few : (i : Inst) (g : ℕ → ℕ → ℕ) (q n k : ℕ) → length (walked i g q n k).met ≤ k
met-few i g q n zero = omega arith
met-few i g q n (suc k) = on (walked i g q n k).met (walked i g q n k).left (met-few i g q n k)
  where
    on : (met left : List State) → length met ≤ k → length (met_one i g q n met left).met ≤ suc k
    on met [] le = omega arith
    on met (s ∷ rest) le = let e : length (met ++ s ∷ []) ≡ length met + 1 = simp length-append (omega arith) in omega arith

marks-few : (i : Inst) (g : ℕ → ℕ → ℕ) (q n budget : ℕ) (marks : List Mark) → EndsWith i g q n budget marks → length marks ≤ budget
marks-few i g q n budget marks e =
    let same : length marks ≡ length e.met = ap length e.noted ∙ length-map e.met (mark_of i g q n) in
    let few : length (walked i g q n e.states).met ≤ e.states = met-few i g q n e.states in
    let met : length (walked i g q n e.states).met ≡ length e.met = ap (λ (p : Progress). length p.met) e.whole in
    let within : e.states ≤ budget = e.within in
    omega arith

-- the marks of a walk that ends refute
ended-refutes : (i : Inst) (g : ℕ → ℕ → ℕ) (q n budget : ℕ) (marks : List Mark) → 0 < q → EndsWith i g q n budget marks → Refutes i g q n marks
ended-refutes i g q n budget marks pos e =
    let none : NoneHas (n + 1) (walked i g q n e.states).met = subst (λ (p : Progress). NoneHas (n + 1) p.met) (sym e.whole) e.none in
    let left : (walked i g q n e.states).left ≡ [] = ap (λ (p : Progress). p.left) e.whole in
    let all : Refutes i g q n (map (mark_of i g q n) (walked i g q n e.states).met ++ []) =
    walked-refutes i g q n e.states pos none [] (subst (λ (l : List State). RefutesEach i g q n l []) (sym left) tt) in
    let same : map (mark_of i g q n) (walked i g q n e.states).met ++ [] ≡ marks =
    append-nil (map (mark_of i g q n) (walked i g q n e.states).met)
    ∙ (ap (λ (p : Progress). map (mark_of i g q n) p.met) e.whole ∙ sym e.noted) in
    subst (λ (l : List Mark). Refutes i g q n l) same all

pub found-answer :
    (p new : Path) (i : Inst) (w : Weighting) (n budget : ℕ) (marks : List Mark) (o : Outcome) (layer : Placed)
    → IsPath p
    → p.inst ≡ i
    → p.weighting ≡ w
    → o ≡ HadEnough
    → Concludes p new n budget marks o
    → layer.inst ≡ i
    → IsPermutation (state new).spots layer.spots
    → IsAnswer i (weight_of w) n budget (Found layer)
found-answer p new i w n budget marks HasEnded layer path ei ew is c el same = absurd (cc)
found-answer p new i w n budget marks HasSpent layer path ei ew is c el same = absurd (cc)
found-answer p new i w n budget marks HadEnough layer path ei ew is c el same =
    subst (λ (x : Inst). layer.inst ≡ x → IsAnswer x (weight_of w) n budget (Found layer)) ei
    (subst (λ (x : Weighting). layer.inst ≡ p.inst → IsAnswer p.inst (weight_of x) n budget (Found layer)) ew
    (λ e. record {
      least = p.least;
      is_least = path.is_least;
      ends = record { last = state new; ends = c; of_inst = e; cases = same };
    })) el

pub found-tells :
    (p new : Path) (i : Inst) (g : ℕ → ℕ → ℕ) (n budget : ℕ) (marks : List Mark) (o : Outcome) (layer : Placed)
    → o ≡ HadEnough
    → Concludes p new n budget marks o
    → layer.inst ≡ i
    → IsPermutation (state new).spots layer.spots
    → IsLayer layer.inst layer.spots
    → Tells i g n budget (Found layer)
found-tells p new i g n budget marks HasEnded layer is c el same ok = absurd (cc)
found-tells p new i g n budget marks HasSpent layer is c el same ok = absurd (cc)
found-tells p new i g n budget marks HadEnough layer is c el same ok =
    (ok, el, length_permutation (state new).spots layer.spots same ∙ c.enough)

pub refuted-answer :
    (p new : Path) (i : Inst) (w : Weighting) (n budget : ℕ) (marks given : List Mark) (o : Outcome)
    → IsPath p
    → p.inst ≡ i
    → p.weighting ≡ w
    → given ≡ marks
    → o ≡ HasEnded
    → Concludes p new n budget marks o
    → IsAnswer i (weight_of w) n budget (Refuted given) × Tells i (weight_of w) n budget (Refuted given)
refuted-answer p new i w n budget marks given HadEnough path ei ew eg is c = absurd (cc)
refuted-answer p new i w n budget marks given HasSpent path ei ew eg is c = absurd (cc)
refuted-answer p new i w n budget marks given HasEnded path ei ew eg is c =
    subst (λ (l : List Mark). IsAnswer i (weight_of w) n budget (Refuted l) × Tells i (weight_of w) n budget (Refuted l)) (sym eg)
    (subst (λ (x : Inst). IsAnswer x (weight_of w) n budget (Refuted marks) × Tells x (weight_of w) n budget (Refuted marks)) ei
    (subst (λ (x : Weighting). IsAnswer p.inst (weight_of x) n budget (Refuted marks) × Tells p.inst (weight_of x) n budget (Refuted marks)) ew
    (let refutes : Refutes p.inst (weight_of p.weighting) p.least n marks = ended-refutes p.inst (weight_of p.weighting) p.least n budget marks path.some c in (
      record { least = p.least; is_least = path.is_least; ends = c },
      (
        record { least = p.least; is_least = path.is_least; refutes = refutes },
        refutes_bounds p.inst (weight_of p.weighting) p.least n marks path.some path.is_least.bound refutes,
        marks-few p.inst (weight_of p.weighting) p.least n budget marks c,
      ),
    ))))

pub spent-answer :
    (p new : Path) (i : Inst) (w : Weighting) (n budget nodes : ℕ) (marks : List Mark) (o : Outcome)
    → IsPath p
    → p.inst ≡ i
    → p.weighting ≡ w
    → o ≡ HasSpent
    → Concludes p new n budget marks o
    → nodes ≡ budget + 1
    → IsAnswer i (weight_of w) n budget (Spent nodes)
spent-answer p new i w n budget nodes marks HadEnough path ei ew is c en = absurd (cc)
spent-answer p new i w n budget nodes marks HasEnded path ei ew is c en = absurd (cc)
spent-answer p new i w n budget nodes marks HasSpent path ei ew is c en =
    subst (λ (x : Inst). IsAnswer x (weight_of w) n budget (Spent nodes)) ei
    (subst (λ (x : Weighting). IsAnswer p.inst (weight_of x) n budget (Spent nodes)) ew
    (record { least = p.least; is_least = path.is_least; ends = (en, c) }))
