-- The least weight of a case, and the total of the pallet.
use Rattle.std.proofs.Common.{◌≡◌, ℕ, ◌+◌, ◌-◌, ◌*◌, ◌<◌, ◌≤◌, ◌⊎◌, sym, ap, ◌∙◌, refl, inl, inr, arith}
use Rattle.std.proofs.lemmas.Bool.{cases_lt}
use Rattle.std.proofs.lemmas.Nat.{mul-le}
use Rattle.plan_geometry.specs.declared.spots.Way.{Way}
use Rattle.plan_geometry.specs.declared.spots.Way.TheVariants.{Lying, Standing}
use Rattle.plan_geometry.specs.declared.spots.Spot.{Spot}
use Rattle.plan_geometry.specs.declared.instances.Inst.{Inst}
use Rattle.plan_geometry.specs.Layout.{x_extent, y_extent, IsInside, IsLawfulWay, CaseFits, CaseFitsSo}
use Rattle.plan_geometry.specs.Weight.{sum_below, block_weight, spot_weight, total_weight}
use Rattle.plan_geometry.proofs.Counting.{block_weight-one, extents-area, sum_below-same}
use Rattle.weightings.specs.declared.kinds.Weighting.TheVariants.{Area, Colour, Comb}
use Rattle.weightings.specs.Line.{count_from, IsLeastInLine}
use Rattle.weightings.specs.Weighting.{weight_of, IsCaseSide, IsLeastOfWay, IsLeastWeight}
use Rattle.weightings.proofs.Blocks.{block_weight-comb, block_weight-colour_along, block_weight-colour_across}

pub cases_way : (w : Way) → (w ≡ Lying) ⊎ (w ≡ Standing)
cases_way Lying = inl refl
cases_way Standing = inr refl

pub IsLeastOfWay-comb : (I : Inst) (w : Way) (p a r b u v : ℕ) → IsLeastInLine I.l_side (x_extent I w) p a u → IsLeastInLine I.w_side (y_extent I w) r b v → IsLeastOfWay I (weight_of (Comb p a r b)) w (u * v)
IsLeastOfWay-comb I w p a r b u v h k =
    record {
      bound = λ s ins e.
          let in_x : s.x + x_extent I w ≤ I.l_side = rw e at ins.in_x in
          let in_y : s.y + y_extent I w ≤ I.w_side = rw e at ins.in_y in
          rw (e, block_weight-comb p a r b s.x s.y (x_extent I w) (y_extent I w)) (mul-le u v (count_from s.x (x_extent I w) p a) (count_from s.y (y_extent I w) r b) (h.bound s.x in_x) (k.bound s.y in_y));
      x = h.place;
      y = k.place;
      inside = record { in_x = h.in_side; in_y = k.in_side };
      reached = block_weight-comb p a r b h.place k.place (x_extent I w) (y_extent I w) ∙ ap (λ n. n * count_from k.place (y_extent I w) r b) h.reached ∙ ap (λ n. u * n) k.reached;
    }

lying_lawful : (I : Inst) → IsLawfulWay I Lying
lying_lawful I = λ e. absurd (let bad : Lying ≡ Standing → ⊥ = λ d. cc in bad e)

-- a least weight of one way that no case of the other way goes below
pub IsLeastWeight-lying : (I : Inst) (g : ℕ → ℕ → ℕ) (q : ℕ) → IsLeastOfWay I g Lying q → ((s : Spot) → IsInside I s → IsLawfulWay I s.way → s.way ≡ Standing → q ≤ spot_weight g I s) → IsLeastWeight I g q
IsLeastWeight-lying I g q h other =
    record {
      bound = λ s a b. elim (cases_way s.way) [ inl e ↦ h.bound s a e | inr e ↦ other s a b e ];
      spot = record { x = h.x; y = h.y; way = Lying };
      inside = h.inside;
      lawful = lying_lawful I;
      reached = h.reached;
    }

pub IsLeastWeight-standing : (I : Inst) (g : ℕ → ℕ → ℕ) (q : ℕ) → I.short < I.long → IsLeastOfWay I g Standing q → ((s : Spot) → IsInside I s → s.way ≡ Lying → q ≤ spot_weight g I s) → IsLeastWeight I g q
IsLeastWeight-standing I g q l h other =
    record {
      bound = λ s a b. elim (cases_way s.way) [ inl e ↦ other s a e | inr e ↦ h.bound s a e ];
      spot = record { x = h.x; y = h.y; way = Standing };
      inside = h.inside;
      lawful = λ e. l;
      reached = h.reached;
    }

-- the extents of a case in its way fit where it is inside
pub fits-inside : (I : Inst) (s : Spot) (w : Way) → s.way ≡ w → IsInside I s → CaseFitsSo I w
fits-inside I s w e a =
    let in_x : s.x + x_extent I w ≤ I.l_side = rw e at a.in_x in
    let in_y : s.y + y_extent I w ≤ I.w_side = rw e at a.in_y in
    (omega arith, omega arith)

-- a weighting under which each case weighs the same
pub IsLeastWeight-same : (I : Inst) (g : ℕ → ℕ → ℕ) (q : ℕ) → ((s : Spot) → spot_weight g I s ≡ q) → CaseFits I → IsLeastWeight I g q
IsLeastWeight-same I g q h f =
    let lying : CaseFitsSo I Lying → IsLeastWeight I g q = λ k. record {
      bound = λ s a b. omega (arith, h s);
      spot = record { x = 0; y = 0; way = Lying };
      inside = record { in_x = omega (arith, k.0); in_y = omega (arith, k.1) };
      lawful = lying_lawful I;
      reached = h (record { x = 0; y = 0; way = Lying });
    } in
    elim f [
      | inl k ↦ lying k
      | inr k ↦
          elim (cases_lt I.short I.long) [
            | inl l ↦ record {
              bound = λ s a b. omega (arith, h s);
              spot = record { x = 0; y = 0; way = Standing };
              inside = record { in_x = omega (arith, k.0); in_y = omega (arith, k.1) };
              lawful = λ e. l;
              reached = h (record { x = 0; y = 0; way = Standing });
            }
            | inr l ↦ lying (omega (arith, k.0, k.1, I.sides.ordered), omega (arith, k.0, k.1, I.sides.ordered))
          ]
    ]

spot_weight-area : (I : Inst) (s : Spot) → spot_weight (weight_of Area) I s ≡ I.long * I.short
spot_weight-area I s = block_weight-one s.x s.y (x_extent I s.way) (y_extent I s.way) ∙ extents-area I s.way

pub IsLeastWeight-area : (I : Inst) → CaseFits I → IsLeastWeight I (weight_of Area) (I.long * I.short)
IsLeastWeight-area I f = IsLeastWeight-same I (weight_of Area) (I.long * I.short) (spot_weight-area I) f

-- a block of which one side is k weighs as much as its other side is long
block_weight-colour : (I : Inst) (w : Way) (k c x y : ℕ) → IsCaseSide I k → c < k → block_weight (weight_of (Colour k c)) x y (x_extent I w) (y_extent I w) ≡ I.long + I.short - k
block_weight-colour I Lying k c x y side h =
    let g = weight_of (Colour k c) in
    elim side [
      | inl e ↦ ap (λ n. block_weight g x y n I.short) (sym e) ∙ block_weight-colour_across k c x y I.short h ∙ omega (arith, e)
      | inr e ↦ ap (λ n. block_weight g x y I.long n) (sym e) ∙ block_weight-colour_along k c x y I.long h ∙ omega (arith, e)
    ]
block_weight-colour I Standing k c x y side h =
    let g = weight_of (Colour k c) in
    elim side [
      | inl e ↦ ap (λ n. block_weight g x y I.short n) (sym e) ∙ block_weight-colour_along k c x y I.short h ∙ omega (arith, e)
      | inr e ↦ ap (λ n. block_weight g x y n I.long) (sym e) ∙ block_weight-colour_across k c x y I.long h ∙ omega (arith, e)
    ]

pub IsLeastWeight-colour : (I : Inst) (k c : ℕ) → IsCaseSide I k → c < k → CaseFits I → IsLeastWeight I (weight_of (Colour k c)) (I.long + I.short - k)
IsLeastWeight-colour I k c side h f =
    IsLeastWeight-same I (weight_of (Colour k c)) (I.long + I.short - k) (λ s. block_weight-colour I s.way k c s.x s.y side h) f

-- the weight of the pallet is that of its one block
pub total_weight-block : (I : Inst) (g : ℕ → ℕ → ℕ) → total_weight g I ≡ block_weight g 0 0 I.l_side I.w_side
total_weight-block I g =
    sum_below-same I.l_side (λ i. sum_below I.w_side (λ j. g i j)) (λ i. sum_below I.w_side (λ j. g (0 + i) (0 + j))) (λ i l. sum_below-same I.w_side (λ j. g i j) (λ j. g (0 + i) (0 + j)) (λ j k.
    let u : i ≡ 0 + i = omega arith in
    let v : j ≡ 0 + j = omega arith in
    ap (λ n. g n j) u ∙ ap (λ n. g (0 + i) n) v))

-- a comb's total is the product of its counts along the two sides
pub total_weight-comb : (I : Inst) (p a r b : ℕ) → total_weight (weight_of (Comb p a r b)) I ≡ count_from 0 I.l_side p a * count_from 0 I.w_side r b
total_weight-comb I p a r b =
    total_weight-block I (weight_of (Comb p a r b)) ∙ block_weight-comb p a r b 0 0 I.l_side I.w_side

-- where each case of a way weighs the same
IsLeastOfWay-same : (I : Inst) (g : ℕ → ℕ → ℕ) (w : Way) (q : ℕ) → ((x y : ℕ) → block_weight g x y (x_extent I w) (y_extent I w) ≡ q) → CaseFitsSo I w → IsLeastOfWay I g w q
IsLeastOfWay-same I g w q h f =
    record {
      bound = λ s ins e. rw e (omega (arith, h s.x s.y));
      x = 0;
      y = 0;
      inside = record { in_x = omega (arith, f.0); in_y = omega (arith, f.1) };
      reached = h 0 0;
    }

pub IsLeastOfWay-area : (I : Inst) (w : Way) → CaseFitsSo I w → IsLeastOfWay I (weight_of Area) w (I.long * I.short)
IsLeastOfWay-area I w f =
    IsLeastOfWay-same I (weight_of Area) w (I.long * I.short) (λ x y. block_weight-one x y (x_extent I w) (y_extent I w) ∙ extents-area I w) f

pub IsLeastOfWay-colour : (I : Inst) (w : Way) (k c : ℕ) → IsCaseSide I k → c < k → CaseFitsSo I w → IsLeastOfWay I (weight_of (Colour k c)) w (I.long + I.short - k)
IsLeastOfWay-colour I w k c side h f =
    IsLeastOfWay-same I (weight_of (Colour k c)) w (I.long + I.short - k) (λ x y. block_weight-colour I w k c x y side h) f
