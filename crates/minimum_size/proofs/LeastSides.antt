use Rattle.std.proofs.Common.{◌≡◌, ℕ, ◌+◌, ◌*◌, ◌/◌, ◌≤◌, ◌<◌, refl, arith}
use Rattle.std.proofs.lemmas.Nat.{mul-le}
use Rattle.partitions.specs.Partitions.{IsFeasible, SamePairs}
use Rattle.minimum_size.specs.LeastSide.{IsLeastSide}
use Rattle.partitions.proofs.Pairs.{row_below}

-- a total that some feasible pair has
pub record Reached (side long short new_long new_short total : ℕ) : Type 0 where
  pub i : ℕ
  pub j : ℕ
  pub feasible : IsFeasible side long short i j
  pub sum : total ≡ i * new_long + j * new_short

pub reached_by : (side long short new_long new_short i j : ℕ) → IsFeasible side long short i j
    → Reached side long short new_long new_short (i * new_long + j * new_short)
reached_by side long short new_long new_short i j f = record { i = i; j = j; feasible = f; sum = refl }

-- smaller case sides need no more than the side
pub no_more : (side long short new_long new_short i j : ℕ) → new_long ≤ long → new_short ≤ short
    → IsFeasible side long short i j → i * new_long + j * new_short ≤ side
no_more side long short new_long new_short i j a b f =
    let p = mul-le i new_long i long (omega arith) a in
    let q = mul-le j new_short j short (omega arith) b in
    omega (arith, p, q, f)

pub least_no_greater : (side long short new_long new_short least : ℕ) → new_long ≤ long → new_short ≤ short
    → Reached side long short new_long new_short least → least ≤ side
least_no_greater side long short new_long new_short least a b r =
    let n = no_more side long short new_long new_short r.i r.j a b r.feasible in
    let s = r.sum in omega (arith, n, s)

pub least_side_at : (side long short new_long new_short least : ℕ) → 1 ≤ long
    → ((i : ℕ) → i < side / long + 1 → (j : ℕ) → IsFeasible side long short i j → i * new_long + j * new_short ≤ least)
    → Reached side long short new_long new_short least → IsLeastSide side long short new_long new_short least
least_side_at side long short new_long new_short least pos covers r = record {
  i = r.i;
  j = r.j;
  feasible = r.feasible;
  sum = r.sum;
  covers = λ i j f. covers i (let b = row_below side long short i j pos f in omega (arith, b)) j f;
}

-- the step of the loop: the greatest pair of a row has the row's greatest total
pub row_covers : (side long short new_long new_short i m : ℕ) → ((j : ℕ) → IsFeasible side long short i j → j ≤ m)
    → (j : ℕ) → IsFeasible side long short i j → i * new_long + j * new_short ≤ i * new_long + m * new_short
row_covers side long short new_long new_short i m g j f =
    let p = mul-le j new_short m new_short (g j f) (omega arith) in omega (arith, p)

-- where some side keeps exactly the pairs at other case sides, the least side does so and is no greater
pub least_side_same : (side long short other least new_long new_short : ℕ)
    → IsLeastSide side long short new_long new_short least
    → SamePairs side long short other new_long new_short
    → SamePairs side long short least new_long new_short × (least ≤ other)
least_side_same side long short other least new_long new_short l same =
    let within : least ≤ other = let s = l.sum in let f = (same l.i l.j).0 l.feasible in omega (arith, s, f) in
    (λ i j. (λ f. l.covers i j f, λ f. (same i j).1 (omega (arith, within, f))), within)
