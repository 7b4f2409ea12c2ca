-- What is known of the layer that a step answers, where it answers one.
use Rattle.std.proofs.Common.{◌≡◌, ℕ, ◌≤◌, true, false, length, max, subst, arith, Result, Ok, Err, IfOk}
use Rattle.plan_geometry.specs.declared.spots.Way.TheVariants.{Lying, Standing}
use Rattle.plan_geometry.specs.declared.instances.Inst.{Inst}
use Rattle.plan_geometry.specs.Grid.{grid_count}
use Rattle.plan_geometry.specs.Layout.{IsBounded}
use Rattle.plan_geometry.specs.Placed.{Placed, IsLayer}
use Rattle.plan_memory.specs.declared.Memory.{Memory}
use Rattle.layer_patterns.specs.Patterns.{ReachesFirst, ReachesFour, ReachesFive, HoldsBlocks}

pub never : {A : Type 0} → false ≡ true → A
never e = absurd (no e) where
  no : false ≡ true → ⊥
  no e = cc

-- a layer of the instance has no more cases than a number that bounds its layouts
pub few-cases : (I : Inst) (most : ℕ) → IsBounded I most → (r : Result Placed Memory) → IfOk r (λ a. a.inst ≡ I) → IfOk r (λ a. IsLayer a.inst a.spots) → IfOk r (λ a. length a.spots ≤ most)
few-cases I most b (Ok a) e h = b a.spots (subst (λ J. IsLayer J a.spots) e h).layout
few-cases I most b (Err e) f h = tt

-- the last layer has what each step before it reached: m cases of the better grid, then k of the first level
pub all-blocks : (I : Inst) (r : Result Placed Memory) (m k : ℕ) → m ≡ max (grid_count I Lying) (grid_count I Standing) → m ≤ k → ReachesFirst I k
    → IfOk r (λ a. k ≤ length a.spots) → IfOk r (λ a. ReachesFour I (length a.spots)) → IfOk r (λ a. ReachesFive I (length a.spots))
    → IfOk r (λ a. HoldsBlocks I (length a.spots))
all-blocks I (Ok a) m k e up first grown four five = record {
  lying = omega (arith, e, up, grown);
  standing = omega (arith, e, up, grown);
  first_level = λ n h. let f = first n h in omega (arith, f, grown);
  four_blocks = four;
  five_blocks = five;
}
all-blocks I (Err f) m k e up first grown four five = tt
