-- Certificates by weights: what makes them accepted, how long they are, and that they have a text.
use Rattle.std.proofs.Common.{◌≡◌, ℕ, suc, Bool, true, false, ◌+◌, ◌/◌, ◌≤◌, List, [], ◌∷◌, length, subst, refl, arith, inl, inr}
use Rattle.std.specs.Prelude.{◌&&◌}
use Rattle.std.proofs.lemmas.Bool.{le-leb}
use Rattle.plan_geometry.specs.declared.instances.Inst.{Inst}
use Rattle.plan_geometry.specs.Weight.{total_weight, WeighsAtLeast}
use Rattle.weightings.specs.declared.kinds.Weighting.{Weighting}
use Rattle.weightings.specs.declared.kinds.Weighting.TheVariants.{Area, Colour, Comb, Table, Lines}
use Rattle.weightings.specs.declared.certs.Mark.{Mark}
use Rattle.weightings.specs.declared.certs.Mark.TheVariants.{Leaf}
use Rattle.weightings.specs.Weighting.{weight_of, IsCaseSide, IsMember, IsLeastWeight, IsWeightBound}
use Rattle.weightings.specs.Lead.{IsLead}
use Rattle.weightings.proofs.LeadSteps.{IsLeastWeight-unique, IsWeightBound-unique, IsMember-lawful}
use Rattle.cert_rules.specs.Corner.{start, above}
use Rattle.cert_rules.specs.Refute.{Refutes, IsRefutation}
use Rattle.cert_rules.proofs.BlockSums.{total-above}
use Rattle.bound_checker.specs.Accepts.{AcceptsWeighted}
use Rattle.bound_checker.proofs.Soundness.{some_least}
use Rattle.cert_text.specs.declared.forms.Form.TheVariants.{Two}
use Rattle.cert_text.specs.Ranges.{is_weighting, is_tree}
use Rattle.layer_planner.specs.Quality.{IsAtMostFamily}

-- ---- the lead

-- a case weighs something under the lead
pub lead-some : (I : Inst) (g : Weighting) → IsLead I g → ¬ IsLeastWeight I (weight_of g) 0
lead-some I g l z =
    let e = IsLeastWeight-unique I (weight_of g) l.is_bound.least 0 l.is_bound.is_least z in
    omega (arith, e, l.is_bound.some)

pub lead-weighs : (I : Inst) (g : Weighting) → IsLead I g → WeighsAtLeast (weight_of g) I 1
lead-weighs I g l s inside lawful =
    let b = l.is_bound.is_least.bound s inside lawful in
    omega (arith, b, l.is_bound.some)

-- no member of the family has a lesser bound
pub lead-family : (I : Inst) (g : Weighting) (b : ℕ) → IsLead I g → IsWeightBound I (weight_of g) b → IsAtMostFamily I b
lead-family I g b l w h n m k =
    let e = IsWeightBound-unique I (weight_of g) b l.bound w l.is_bound in
    elim (l.first h n m k) [ inl lt ↦ omega (arith, e, lt) | inr p ↦ omega (arith, e, p.0) ]

-- ---- marks

-- one leaf refutes more cases than the weights allow
pub leaf-refutes : (I : Inst) (g : ℕ → ℕ → ℕ) (n : ℕ) (w : IsWeightBound I g n) → Refutes I g w.least n (Leaf ∷ [])
leaf-refutes I g n w = (leaf, tt) where
  leaf : 0 + above I g (start I) / w.least ≤ n
  leaf = let e : total_weight g I / w.least ≤ n = omega (arith, w.value) in
      let f : above I g (start I) / w.least ≤ n = subst (λ t. t / w.least ≤ n) (total-above I g) e in omega (arith, f)

pub leaf-accepted : (I : Inst) (g : Weighting) (n : ℕ) → IsLead I g → IsWeightBound I (weight_of g) n → AcceptsWeighted I g n (Leaf ∷ [])
leaf-accepted I g n l w = record { lawful = IsMember-lawful I g l.member; refutation = record { least = w.least; is_least = w.is_least; refutes = leaf-refutes I (weight_of g) n w }; some = w.some }

pub refuted-accepted : (I : Inst) (g : Weighting) (n : ℕ) (marks : List Mark) → IsLead I g → IsRefutation I (weight_of g) n marks → AcceptsWeighted I g n marks
refuted-accepted I g n marks l r = record {
  lawful = IsMember-lawful I g l.member;
  refutation = r;
  some = some_least I g n marks l.is_bound.least l.is_bound.is_least (λ e. omega (arith, e, l.is_bound.some)) r;
}

-- a refutation has marks
pub refutation-some : (I : Inst) (g : ℕ → ℕ → ℕ) (n : ℕ) (marks : List Mark) → IsRefutation I g n marks → 1 ≤ length marks
refutation-some I g n [] r = absurd r.refutes
refutation-some I g n (m ∷ ms) r = omega arith

-- ---- texts

pub both : (a b : Bool) → a ≡ true → b ≡ true → (a && b) ≡ true
both true true p q = refl
both true false p q = q
both false b p q = p

side-small : (I : Inst) (k : ℕ) → IsCaseSide I k → (1 ≤ k) × (k ≤ 4000)
side-small I k (inl e) = let s = I.sides in (omega (arith, e), omega (arith, e))
side-small I k (inr e) = let s = I.sides in (omega (arith, e), omega (arith, e))

pub member-text : (I : Inst) (g : Weighting) → IsMember I g → is_weighting Two g ≡ true
member-text I Area m = refl
member-text I (Colour k c) m =
    let k_small = side-small I k m.0 in
    both _ _ (le-leb 1 k k_small.0) (both _ _ (le-leb k 4000 k_small.1) (le-leb (suc c) k (omega (arith, m.1))))
member-text I (Comb p a r b) m =
    let p_small = side-small I p m.0 in
    let r_small = side-small I r m.2 in
    both _ _ (le-leb 1 p p_small.0) (both _ _ (le-leb p 4000 p_small.1) (both _ _ (le-leb (suc a) p (omega (arith, m.1)))
    (both _ _ (le-leb 1 r r_small.0) (both _ _ (le-leb r 4000 r_small.1) (le-leb (suc b) r (omega (arith, m.3)))))))
member-text I (Table t) m = absurd m
member-text I (Lines t) m = absurd m

pub tree-text : (marks : List Mark) → 1 ≤ length marks → length marks ≤ 500000 → is_tree marks ≡ true
tree-text marks some few = both _ _ (le-leb 1 (length marks) some) (le-leb (length marks) 500000 few)

pub weighted-text : (I : Inst) (g : Weighting) (marks : List Mark) → IsMember I g → 1 ≤ length marks → length marks ≤ 500000 → (is_weighting Two g && is_tree marks) ≡ true
weighted-text I g marks m some few = both _ _ (member-text I g m) (tree-text marks some few)
