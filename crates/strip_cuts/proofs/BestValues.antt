-- The greatest value over the partitions of a side.
use Rattle.std.proofs.Common.{◌≡◌, ℕ, ◌+◌, ◌*◌, ◌/◌, ◌<◌, ◌≤◌, ◌⊎◌, inl, inr, arith, subst, sym}
use Rattle.std.proofs.lemmas.Bool.{cases_lt}
use Rattle.std.proofs.Math.Nat.{mul-le-mul_left}
use Rattle.plan_geometry.specs.declared.spots.Axis.{Axis}
use Rattle.plan_geometry.specs.declared.spots.Axis.TheVariants.{X, Y}
use Rattle.plan_geometry.specs.declared.instances.Inst.{Inst}
use Rattle.plan_geometry.specs.Layout.{side}
use Rattle.partitions.specs.Partitions.{IsPartition}
use Rattle.partitions.proofs.Pairs.{row_below}
use Rattle.strip_cuts.specs.Cuts.{IsGreatest}

-- the greatest value so far, over fewer than k long case sides
pub record Best (axis : Axis) (I : Inst) (a b best k : ℕ) : Type 0 where
  pub bounds : (i j : ℕ) → i < k → IsPartition axis I i j → a * i + b * j ≤ best
  pub i : ℕ
  pub j : ℕ
  pub feasible : IsPartition axis I i j
  pub reached : a * i + b * j ≡ best

pub best-start : (axis : Axis) (I : Inst) (a b : ℕ) → Best axis I a b 0 0
best-start axis I a b = record {
  bounds = λ i j lt f. absurd (omega arith);
  i = 0;
  j = 0;
  feasible = omega arith;
  reached = omega arith;
}

pub best-more :
    (axis : Axis) (I : Inst) (a b best k j now : ℕ)
    → Best axis I a b best k
    → IsPartition axis I k j
    → ((m : ℕ) → IsPartition axis I k m → m ≤ j)
    → best ≤ now
    → a * k + b * j ≤ now
    → (now ≡ best) ⊎ (now ≡ a * k + b * j)
    → Best axis I a b now (k + 1)
best-more axis I a b best k j now h here most old new which =
    elim which [
      | inl e ↦ record { bounds = all; i = h.i; j = h.j; feasible = h.feasible; reached = omega (arith, h.reached) }
      | inr e ↦ record { bounds = all; i = k; j = j; feasible = here; reached = sym e }
    ]
  where
    all : (m n : ℕ) → m < k + 1 → IsPartition axis I m n → a * m + b * n ≤ now
    all m n lt f =
        elim (cases_lt m k) [
          | inl less ↦ let le : a * m + b * n ≤ best = h.bounds m n less f in omega arith
          | inr more ↦
              let e : m ≡ k = omega arith in
              let at_k : IsPartition axis I k n = subst (λ (x : ℕ). IsPartition axis I x n) e f in
              let le : b * n ≤ b * j = mul-le-mul_left b (most n at_k) in
              let value : a * k + b * n ≤ now = omega arith in
              subst (λ (x : ℕ). a * x + b * n ≤ now) (sym e) value
        ]

pub best-end :
    (axis : Axis) (I : Inst) (a b best k : ℕ)
    → Best axis I a b best k
    → side axis I / I.long + 1 ≤ k
    → IsGreatest axis I a b best
best-end axis I a b best k h all = record {
  bounds = λ i j f.
      let few : i ≤ side axis I / I.long =
      row_below (side axis I) I.long I.short i j (omega (arith, I.sides.short_min, I.sides.ordered)) f in
      h.bounds i j (omega arith) f;
  i = h.i;
  j = h.j;
  feasible = h.feasible;
  reached = h.reached;
}

-- there is one greatest value
pub greatest-one : (axis : Axis) (I : Inst) (a b p q : ℕ) → IsGreatest axis I a b p → IsGreatest axis I a b q → p ≡ q
greatest-one axis I a b p q g h =
    let e : a * g.i + b * g.j ≡ p = g.reached in
    let f : a * h.i + b * h.j ≡ q = h.reached in
    let le : a * h.i + b * h.j ≤ p = g.bounds h.i h.j h.feasible in
    let ge : a * g.i + b * g.j ≤ q = h.bounds g.i g.j g.feasible in
    omega arith

pub side-small : (axis : Axis) (I : Inst) → side axis I ≤ 4000
side-small X I = I.sides.l_max
side-small Y I = I.sides.w_max

-- neither number of a partition is above the side
pub partition-small : (axis : Axis) (I : Inst) (i j : ℕ) → IsPartition axis I i j → (i ≤ 4000) × (j ≤ 4000)
partition-small axis I i j f =
    let small : side axis I ≤ 4000 = side-small axis I in
    let one : 1 ≤ I.short = I.sides.short_min in
    let two : 1 ≤ I.long = omega (arith, I.sides.ordered) in
    let p : i * 1 ≤ i * I.long = mul-le-mul_left i two in
    let q : j * 1 ≤ j * I.short = mul-le-mul_left j one in
    (omega (arith, f), omega (arith, f))

pub value-small :
    (a b i j : ℕ) → a < 4294967296 → b < 4294967296 → i ≤ 4000 → j ≤ 4000 → a * i + b * j ≤ 4294967296 * 8000
value-small a b i j p q r s =
    let one : a * i ≤ a * 4000 = mul-le-mul_left a r in
    let two : b * j ≤ b * 4000 = mul-le-mul_left b s in
    omega arith

pub greatest-small : (axis : Axis) (I : Inst) (a b q : ℕ) → a < 4294967296 → b < 4294967296 → IsGreatest axis I a b q → q ≤ 4294967296 * 8000
greatest-small axis I a b q p r g =
    let few = partition-small axis I g.i g.j g.feasible in
    let small : a * g.i + b * g.j ≤ 4294967296 * 8000 = value-small a b g.i g.j p r few.0 few.1 in
    omega (arith, g.reached)
