-- An instance with the same partitions has an area bound below four times the given one.
use Rattle.std.proofs.Common.{ℕ, ◌+◌, ◌*◌, ◌/◌, ◌≤◌, ◌<◌, inl, inr, arith}
use Rattle.std.proofs.lemmas.Bool.{cases_lt}
use Rattle.std.proofs.lemmas.Nat.{mul-le, le-div, div_below}
use Rattle.std.proofs.Math.Nat.{mul_comm, div-mul-le_self}
use Rattle.partitions.specs.Partitions.{SamePairs}
use Rattle.minimum_size.specs.Reduced.{SameSidesHaveSmallAreas}

-- the other side is below one more case side than fits on the side
long_next : (side long short other ol os : ℕ) → 1 ≤ long → SamePairs side long short other ol os → other < (side / long + 1) * ol
long_next side long short other ol os p same =
    elim (cases_lt other ((side / long + 1) * ol)) [
      | inl lt ↦ lt
      | inr ge ↦
          let f : (side / long + 1) * long + 0 * short ≤ side = (same (side / long + 1) 0).1 (omega (arith, ge)) in
          let b = le-div (side / long + 1) side long p (omega (arith, f)) in absurd (omega (arith, b))
    ]

short_next : (side long short other ol os : ℕ) → 1 ≤ short → SamePairs side long short other ol os → other < (side / short + 1) * os
short_next side long short other ol os p same =
    elim (cases_lt other ((side / short + 1) * os)) [
      | inl lt ↦ lt
      | inr ge ↦
          let f : 0 * long + (side / short + 1) * short ≤ side = (same 0 (side / short + 1)).1 (omega (arith, ge)) in
          let b = le-div (side / short + 1) side short p (omega (arith, f)) in absurd (omega (arith, b))
    ]

four_times : (m n : ℕ) → 1 ≤ m → 1 ≤ n → (m + 1) * (n + 1) ≤ 4 * (m * n)
four_times m n p q =
    omega (arith, mul-le m 1 m n (omega arith) q, mul-le 1 n m n p (omega arith), mul-le 1 1 m n p q)

below_four : (A B a b A' B' a' b' : ℕ) → 1 ≤ a → 1 ≤ b → 1 ≤ a' → 1 ≤ b' → a ≤ A → b ≤ B → A' < (A / a + 1) * a' → B' < (B / b + 1) * b' → (A' * B') / (a' * b') < 4 * ((A * B) / (a * b))
below_four A B a b A' B' a' b' p q p' q' fa fb la lb =
    let m = A / a in
    let n = B / b in
    let one : 1 ≤ m = le-div 1 A a p (omega arith) in
    let two : 1 ≤ n = le-div 1 B b q (omega arith) in
    let some : 1 ≤ a * b = omega (arith, mul-le 1 1 a b p q) in
    let some' : 1 ≤ a' * b' = omega (arith, mul-le 1 1 a' b' p' q') in
    let inner : (m * a) * (n * b) ≤ A * B = mul-le (m * a) (n * b) A B (div-mul-le_self A a) (div-mul-le_self B b) in
    let held : m * n ≤ (A * B) / (a * b) = le-div (m * n) (A * B) (a * b) some (omega (arith, inner)) in
    let outer : (A' + 1) * (B' + 1) ≤ ((m + 1) * a') * ((n + 1) * b') = mul-le (A' + 1) (B' + 1) ((m + 1) * a') ((n + 1) * b') (omega arith) (omega arith) in
    let below : A' * B' < ((m + 1) * (n + 1)) * (a' * b') = omega (arith, outer) in
    let few : (A' * B') / (a' * b') < (m + 1) * (n + 1) = div_below (A' * B') (a' * b') ((m + 1) * (n + 1)) some' below in
    omega (arith, few, held, four_times m n one two)

below_four-turned : (A B a b A' B' a' b' : ℕ) → 1 ≤ a → 1 ≤ b → 1 ≤ a' → 1 ≤ b' → b ≤ A → a ≤ B → A' < (A / b + 1) * b' → B' < (B / a + 1) * a' → (A' * B') / (a' * b') < 4 * ((A * B) / (a * b))
below_four-turned A B a b A' B' a' b' p q p' q' fa fb la lb =
    let t : (A' * B') / (b' * a') < 4 * ((A * B) / (b * a)) = below_four A B b a A' B' b' a' q p q' p' fa fb la lb in
    rw (mul_comm b' a', mul_comm b a) at t

pub small_area : SameSidesHaveSmallAreas
small_area given inst same fits =
    let s = given.sides.short_min in
    let l : 1 ≤ given.long = omega (arith, s, given.sides.ordered) in
    let s' = inst.sides.short_min in
    let l' : 1 ≤ inst.long = omega (arith, s', inst.sides.ordered) in
    elim fits [
      | inl f ↦ below_four given.l_side given.w_side given.long given.short inst.l_side inst.w_side inst.long inst.short l s l' s' f.0 f.1
          (long_next given.l_side given.long given.short inst.l_side inst.long inst.short l same.along_x)
          (short_next given.w_side given.long given.short inst.w_side inst.long inst.short s same.along_y)
      | inr f ↦ below_four-turned given.l_side given.w_side given.long given.short inst.l_side inst.w_side inst.long inst.short l s l' s' f.0 f.1
          (short_next given.l_side given.long given.short inst.l_side inst.long inst.short s same.along_x)
          (long_next given.w_side given.long given.short inst.w_side inst.long inst.short l same.along_y)
    ]
