-- The product of the overlaps is the number of common cells.
use Rattle.std.proofs.Common.{◌≡◌, ℕ, zero, suc, ◌+◌, ◌-◌, ◌*◌, ◌≤◌, min, max, Bool, true, false, cond, ltb, leb, ◌&&◌, ap, ◌∙◌, inl, inr, arith}
use Rattle.std.proofs.lemmas.Bool.Decides.{leb_tells}
use Rattle.plan_geometry.specs.declared.spots.Spot.{Spot}
use Rattle.plan_geometry.specs.declared.instances.Inst.{Inst}
use Rattle.plan_geometry.specs.Layout.{start, IsInside}
use Rattle.plan_geometry.specs.Weight.{sum_below}
use Rattle.plan_geometry.proofs.Counting.{sum_below-same}
use Rattle.plan_geometry.specs.declared.spots.Axis.{Axis}
use Rattle.plan_geometry.specs.declared.spots.Axis.TheVariants.{X, Y}
use Rattle.contact_rules.specs.Real.{IsGapOf, real_side, real_finish}
use Rattle.contact_rules.specs.Shared.{shared, covers}
use Rattle.contact_rules.specs.Steps.{overlap}
use Rattle.contact_rules.proofs.RunSteps.{finish-inside}

abbrev one : Bool → ℕ
one b = cond b 1 0

-- whether a case covers the place along an axis
abbrev on : Axis → Inst → ℕ → Spot → ℕ → Bool
on a I g s i = leb (start a s) i && ltb i (real_finish a I g s)

one-four : (a b c d : Bool) → one ((a && b) && (c && d)) ≡ one (a && c) * one (b && d)
one-four false b c d = omega arith
one-four true false c d = omega arith
one-four true true false d = omega arith
one-four true true true d = omega arith

sum-times : (n k : ℕ) (f : ℕ → ℕ) → sum_below n (λ i. k * f i) ≡ k * sum_below n f
sum-times zero k f = omega arith
sum-times (suc n) k f = omega (arith, sum-times n k f)

sum-times-right : (n k : ℕ) (f : ℕ → ℕ) → sum_below n (λ i. f i * k) ≡ sum_below n f * k
sum-times-right zero k f = omega arith
sum-times-right (suc n) k f = omega (arith, sum-times-right n k f)

one-both : (n s f t h : ℕ) → one ((leb s n && ltb n f) && (leb t n && ltb n h)) + (min (min f h) n - max s t) ≡ min (min f h) (suc n) - max s t
one-both n s f t h =
    elim (leb_tells s n) [
      | inr a ↦ rw a.0 (omega (arith, a.1))
      | inl a ↦
          elim (leb_tells (suc n) f) [
            | inr b ↦ rw (a.0, b.0) (omega (arith, b.1))
            | inl b ↦
                elim (leb_tells t n) [
                  | inr c ↦ rw (a.0, b.0, c.0) (omega (arith, c.1))
                  | inl c ↦
                      elim (leb_tells (suc n) h) [
                        | inr d ↦ rw (a.0, b.0, c.0, d.0) (omega (arith, d.1))
                        | inl d ↦ rw (a.0, b.0, c.0, d.0) (omega (arith, a.1, b.1, c.1, d.1))
                      ]
                ]
          ]
    ]

count-both : (n s f t h : ℕ) → sum_below n (λ i. one ((leb s i && ltb i f) && (leb t i && ltb i h))) ≡ min (min f h) n - max s t
count-both zero s f t h = omega arith
count-both (suc n) s f t h = omega (arith, count-both n s f t h, one-both n s f t h)

count-on : (a : Axis) (I : Inst) (g : ℕ) (s t : Spot) → IsGapOf I g → IsInside I s → sum_below (real_side a I g) (λ i. one (on a I g s i && on a I g t i)) ≡ overlap a I g s t
count-on a I g s t gap i =
    let z : real_finish a I g s ≤ real_side a I g = finish-inside a I g s gap i in
    omega (arith, count-both (real_side a I g) (start a s) (real_finish a I g s) (start a t) (real_finish a I g t))

pub shared-product : (I : Inst) (g : ℕ) (s t : Spot) → IsGapOf I g → IsInside I s → shared I g s t ≡ overlap X I g s t * overlap Y I g s t
unfolding shared
shared-product I g s t gap i =
    let L = real_side X I g in
    let W = real_side Y I g in
    let fx : ℕ → ℕ = λ i. one (on X I g s i && on X I g t i) in
    let fy : ℕ → ℕ = λ j. one (on Y I g s j && on Y I g t j) in
    let row : (i : ℕ) → sum_below W (λ j. one (covers I g s i j && covers I g t i j)) ≡ fx i * sum_below W fy =
    λ i. sum_below-same W (λ j. one (covers I g s i j && covers I g t i j)) (λ j. fx i * fy j) (λ j p. one-four (on X I g s i) (on Y I g s j) (on X I g t i) (on Y I g t j)) ∙ sum-times W (fx i) fy in
    let whole : shared I g s t ≡ sum_below L (λ i. fx i * sum_below W fy) =
    sum_below-same L (λ i. sum_below W (λ j. one (covers I g s i j && covers I g t i j))) (λ i. fx i * sum_below W fy) (λ i p. row i) in
    let total : sum_below L (λ i. fx i * sum_below W fy) ≡ sum_below L fx * sum_below W fy = sum-times-right L (sum_below W fy) fx in
    let x : sum_below L fx ≡ overlap X I g s t = count-on X I g s t gap i in
    let y : sum_below W fy ≡ overlap Y I g s t = count-on Y I g s t gap i in
    whole ∙ (total ∙ (ap (λ n. n * sum_below W fy) x ∙ ap (λ n. overlap X I g s t * n) y))
