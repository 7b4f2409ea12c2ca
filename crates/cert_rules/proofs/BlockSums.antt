-- The weights of blocks, by their columns.
use Rattle.std.proofs.Common.{◌≡◌, ℕ, suc, ◌+◌, ◌%◌, arith, subst, sym, ap, ◌∙◌}
use Rattle.std.specs.Prelude.{◌==◌, nat_le, if◌then◌else◌, replicate, slice_index}
use Rattle.std.proofs.lemmas.Bool.Decides.{nat_tests}
use Rattle.plan_geometry.specs.Weight.{sum_below, total_weight}
use Rattle.plan_geometry.specs.declared.instances.Inst.{Inst}
use Rattle.plan_geometry.proofs.Counting.{sum_below-same}
use Rattle.weightings.specs.Line.{one_if, count_from}
use Rattle.weightings.specs.Weighting.{weight_of}
use Rattle.weightings.specs.declared.kinds.Weighting.TheVariants.{Colour}
use Rattle.cert_rules.specs.Corner.{weight_above}
use Rattle.cert_rules.proofs.Refuting.{zeros}

-- a column under a colour is a line
pub column-colour : (x y b k c : ℕ) → count_from (x + y) b k c ≡ sum_below b (λ j. one_if ((x + (y + j)) % k == c))
column-colour x y b k c =
    sum_below-same b (λ j. one_if ((x + y + j) % k == c)) (λ j. one_if ((x + (y + j)) % k == c))
    (λ j lt. let e : x + y + j ≡ x + (y + j) = omega arith in ap (λ (n : ℕ). one_if (n % k == c)) e)

sum_below-next : (n : ℕ) (f : ℕ → ℕ) → sum_below (n + 1) f ≡ sum_below n f + f n
sum_below-next n f = let e : n + 1 ≡ suc n = omega arith in ap (λ (m : ℕ). sum_below m f) e

-- one more column of a block under a colour
pub colour-more :
    (k c x y b n sum here : ℕ)
    → sum ≡ sum_below n (λ i. sum_below b (λ j. weight_of (Colour k c) (x + i) (y + j)))
    → here ≡ count_from (x + n + y) b k c
    → sum + here ≡ sum_below (n + 1) (λ i. sum_below b (λ j. weight_of (Colour k c) (x + i) (y + j)))
colour-more k c x y b n sum here p q =
    let f : ℕ → ℕ = λ i. sum_below b (λ j. weight_of (Colour k c) (x + i) (y + j)) in
    ap (λ (m : ℕ). m + here) p ∙ (ap (λ (m : ℕ). sum_below n f + m) (q ∙ column-colour (x + n) y b k c) ∙ sym (sum_below-next n f))

-- the whole pallet is above heights 0
pub total-above :
    (i : Inst) (g : ℕ → ℕ → ℕ)
    → total_weight g i ≡ total_weight (weight_above g (replicate {A = ℕ} i.l_side 0)) i
total-above i g =
    sum_below-same i.l_side (λ x. sum_below i.w_side (λ y. g x y))
    (λ x. sum_below i.w_side (λ y. weight_above g (replicate {A = ℕ} i.l_side 0) x y))
    (λ x lx. sum_below-same i.w_side (λ y. g x y) (λ y. weight_above g (replicate {A = ℕ} i.l_side 0) x y) (λ y ly. cell x y))
  where
    at_zero : (y w : ℕ) → w ≡ (if nat_le 0 y then w else 0)
    at_zero y w = grind (arith, nat_tests)

    cell : (x y : ℕ) → g x y ≡ weight_above g (replicate {A = ℕ} i.l_side 0) x y
    cell x y =
        let z : slice_index (replicate {A = ℕ} i.l_side 0) x ≡ 0 = zeros i.l_side x in
        subst (λ (h : ℕ). g x y ≡ (if nat_le h y then g x y else 0)) (sym z) (at_zero y (g x y))
