-- Which numbers of the reduced instance are small, and that a case is on each layer.
use Rattle.std.proofs.Common.{ℕ, ◌*◌, ◌/◌, ◌<◌, ◌≤◌, arith, inl, inr}
use Rattle.std.proofs.lemmas.Nat.{le-div}
use Rattle.std.proofs.Math.Nat.{mul-le-mul}
use Rattle.plan_geometry.specs.declared.spots.Way.TheVariants.{Lying, Standing}
use Rattle.plan_geometry.specs.declared.instances.Inst.{Inst}
use Rattle.plan_geometry.specs.Layout.{IsBounded, CaseFits}
use Rattle.plan_geometry.specs.Grid.{grid_count}
use Rattle.layout_map.proofs.Admits.{bounded_law}
use Rattle.block_tree.specs.Trees.{uniform}
use Rattle.block_tables.specs.declared.patterns.Pattern.TheVariants.{Five}
use Rattle.block_tables.specs.Numbers.{by_grid}
use Rattle.block_tables.proofs.AdmitLemmas.{admitted}
use Rattle.std.proofs.Math.Nat.{le_refl}
use Rattle.bound_checker.proofs.Soundness.{accepted}
use Rattle.layer_planner.specs.Known.{IsKnown}
use Rattle.layer_planner.specs.declared.bounds.Known.{Known}
use Rattle.std.proofs.Common.{refl}

quotient-some : (a b : ℕ) → 0 < b → b ≤ a → 1 ≤ a / b
quotient-some a b some le = le-div 1 a b some (omega (arith, le))

product-some : (p q : ℕ) → 1 ≤ p → 1 ≤ q → 1 ≤ p * q
product-some p q x y = let m = mul-le-mul x y in omega (arith, m)

-- where a case fits, one of the two grids has a case
pub some-case : (I : Inst) (count : ℕ) → CaseFits I → grid_count I Lying ≤ count → grid_count I Standing ≤ count → 1 ≤ count
some-case I count (inl f) l s =
    let i = I.sides in
    let p = product-some _ _ (quotient-some I.l_side I.long (omega arith) f.0) (quotient-some I.w_side I.short (omega arith) f.1) in
    omega (arith, p, l)
some-case I count (inr f) l s =
    let i = I.sides in
    let p = product-some _ _ (quotient-some I.l_side I.short (omega arith) f.0) (quotient-some I.w_side I.long (omega arith) f.1) in
    omega (arith, p, s)

-- the better grid has no more cases than a number that bounds the layouts
pub grid-within : (I : Inst) (most : ℕ) → IsBounded I most → uniform I I.l_side I.w_side ≤ most
grid-within I most b =
    let a = admitted I Five I.l_side I.w_side (uniform I I.l_side I.w_side) (le_refl I.l_side) (le_refl I.w_side) (by_grid refl) in
    let l = b a.spots a.layout in
    omega (arith, l, a.count)

-- what is known bounds the layouts of both instances
pub bounds-given : (given reduced : Inst) (k : Known) → IsKnown given reduced k → IsBounded given k.bound
bounds-given given reduced k h = accepted given reduced k.cert k.bound h.accepted

pub bounds-reduced : (given reduced : Inst) (k : Known) → IsKnown given reduced k → IsBounded reduced k.bound
bounds-reduced given reduced k h = (bounded_law given reduced k.bound h.accepted.same).0 (bounds-given given reduced k h)
