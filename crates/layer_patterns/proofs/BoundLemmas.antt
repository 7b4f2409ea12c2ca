-- No number of these patterns is above a number that bounds the layouts of the pallet.
use Rattle.std.proofs.Common.{◌≡◌, ℕ, ◌≤◌, refl, arith}
use Rattle.std.proofs.Math.Nat.{le_refl}
use Rattle.plan_geometry.specs.declared.spots.Way.TheVariants.{Lying, Standing}
use Rattle.plan_geometry.specs.declared.instances.Inst.{Inst}
use Rattle.plan_geometry.specs.Layout.{Admits, IsBounded}
use Rattle.plan_geometry.specs.Grid.{grid_count}
use Rattle.block_tree.specs.Regions.{rectangle}
use Rattle.block_tree.specs.Trees.{uniform}
use Rattle.block_tree.proofs.DrawingLemmas.{root-admits}
use Rattle.block_tables.specs.declared.patterns.Pattern.{Pattern}
use Rattle.block_tables.specs.declared.patterns.Pattern.TheVariants.{Five}
use Rattle.block_tables.specs.Numbers.{RoundsTo, IsNumber, by_grid, IsGreatestOf}
use Rattle.block_tables.proofs.BoundLemmas.{down-le}
use Rattle.block_tables.proofs.EntryLemmas.{down-one}
use Rattle.block_tables.proofs.AdmitLemmas.{admitted}
use Rattle.five_block.specs.FirstLevel.{IsFirstNumber, first_root}
use Rattle.five_block.proofs.RootLemmas.{root-tree}
use Rattle.l_patterns.specs.Ells.{EllAll, IsGreatestEll}
use Rattle.l_patterns.proofs.AdmitLemmas.{admitted as ell-admitted}

-- what some layout has is at most what no layout exceeds
few : (I : Inst) (most : ℕ) → IsBounded I most → (n : ℕ) → Admits I n → n ≤ most
few I most b n a = let l = b a.spots a.layout in omega (arith, l, a.count)

grid-few : (I : Inst) (most : ℕ) → IsBounded I most → uniform I I.l_side I.w_side ≤ most
grid-few I most b = few I most b _ (admitted I Five I.l_side I.w_side (uniform I I.l_side I.w_side) (le_refl I.l_side) (le_refl I.w_side) (by_grid refl))

pub lying-few : (I : Inst) (most : ℕ) → IsBounded I most → grid_count I Lying ≤ most
lying-few I most b = omega (arith, grid-few I most b)

pub standing-few : (I : Inst) (most : ℕ) → IsBounded I most → grid_count I Standing ≤ most
standing-few I most b = omega (arith, grid-few I most b)

pub first-few : (I : Inst) (most : ℕ) → IsBounded I most → (n : ℕ) → IsFirstNumber I n → n ≤ most
first-few I most b n h =
    let s = h.split in
    let c = h.cuts in
    let t = root-tree I s c.x_order c.x2.0 c.y_order c.y2.0 in
    let l = few I most b _ (root-admits I (first_root I s) t.0) in
    omega (arith, l, t.1, h.sum)

pub block-few : (I : Inst) (most : ℕ) → IsBounded I most → (p : Pattern) (a b n : ℕ) → RoundsTo I I.l_side a → RoundsTo I I.w_side b → IsNumber I p a b n → n ≤ most
block-few I most k p a b n x y h = few I most k n (admitted I p a b n (down-le I I.l_side a x) (down-le I I.w_side b y) h)

-- each number of the pallet's block is at most the greatest
pub block-greatest : (I : Inst) (p : Pattern) (m : ℕ) → IsGreatestOf I p m → (a b n : ℕ) → RoundsTo I I.l_side a → RoundsTo I I.w_side b → IsNumber I p a b n → n ≤ m
block-greatest I p m g a b n x y h =
    let u : g.a ≡ a = down-one I I.l_side g.a a g.down_x x in
    let v : g.b ≡ b = down-one I I.w_side g.b b g.down_y y in
    let k : IsNumber I p g.a g.b n = rw (u, v) h in
    g.best.greatest n k

pub ell-few : (I : Inst) (most : ℕ) → IsBounded I most → (a b n : ℕ) → RoundsTo I I.l_side a → RoundsTo I I.w_side b → EllAll I (rectangle a b) n → n ≤ most
ell-few I most k a b n x y h = few I most k n (ell-admitted I a b n (down-le I I.l_side a x) (down-le I I.w_side b y) h)

pub ell-greatest : (I : Inst) (m : ℕ) → IsGreatestEll I m → (a b n : ℕ) → RoundsTo I I.l_side a → RoundsTo I I.w_side b → EllAll I (rectangle a b) n → n ≤ m
ell-greatest I m g a b n x y h =
    let u : g.a ≡ a = down-one I I.l_side g.a a g.down_x x in
    let v : g.b ≡ b = down-one I I.w_side g.b b g.down_y y in
    let k : EllAll I (rectangle g.a g.b) n = rw (u, v) h in
    g.best.greatest n k
