-- The sums that a table keeps.
use Rattle.std.proofs.Common.{◌≡◌, ◌≢◌, ℕ, ◌+◌, ◌-◌, ◌*◌, ◌/◌, ◌%◌, ◌<◌, ◌≤◌, List, [], ◌∷◌, ◌++◌, length, length-append, get_or, sym, ap, ◌∙◌, refl, inl, inr, arith, add-zero}
use Rattle.std.proofs.Math.ListN.{get_or-append}
use Rattle.std.proofs.Math.Seq.{get_or-append_seam}
use Rattle.std.proofs.lemmas.Bool.{cases_lt}
use Rattle.std.proofs.lemmas.List.{get_or_past}
use Rattle.std.proofs.lemmas.Nat.{div-add-mod', mod_below, div_below, div-mul-add, mod-mul-add, mul-le}
use Rattle.plan_geometry.specs.Weight.{sum_below, block_weight}
use Rattle.plan_geometry.proofs.Counting.{sum_below-none, sum_below-same, sum_below-le, sum_below-add, sum_below-const, sum_below-split}
use Rattle.line_tables.specs.Lines.{Lines, crossing, half, from_end, IsLineTable}
use Rattle.line_tables.specs.Sums.{first_weights, AreSums}

-- ---- the weights of the first columns and rows

pub first_weights-no_row : (t : Lines) (i : ℕ) → first_weights t i 0 ≡ 0
first_weights-no_row t i = sum_below-none i (λ p. 0) (λ p l. refl)

-- fewer rows weigh no more
pub first_weights-rows : (t : Lines) (i j k : ℕ) → first_weights t i j ≤ first_weights t i (j + k)
first_weights-rows t i j k =
    sum_below-le i (λ p. sum_below j (λ q. crossing t p q)) (λ p. sum_below (j + k) (λ q. crossing t p q)) (λ p l. omega (arith, sum_below-split j k (λ q. crossing t p q)))

-- a block of crossings, and the first weights at its four corners
pub record Corners (t : Lines) (i j a b : ℕ) : Type 0 where
  pub strip : ℕ
  pub upper : first_weights t (i + a) (j + b) ≡ first_weights t i (j + b) + (strip + block_weight (crossing t) i j a b)
  pub lower : first_weights t (i + a) j ≡ first_weights t i j + strip

pub corners : (t : Lines) (i j a b : ℕ) → Corners t i j a b
corners t i j a b =
    let column : ℕ → ℕ → ℕ = λ n p. sum_below n (λ q. crossing t p q) in
    let strip : ℕ = sum_below a (λ p. column j (i + p)) in
    let block : ℕ → ℕ = λ p. sum_below b (λ q. crossing t (i + p) (j + q)) in
    let both : sum_below a (λ p. column (j + b) (i + p)) ≡ strip + sum_below a block =
    sum_below-same a (λ p. column (j + b) (i + p)) (λ p. column j (i + p) + block p) (λ p l. sum_below-split j b (λ q. crossing t (i + p) q)) ∙ sum_below-add a (λ p. column j (i + p)) block in
    record {
      strip = strip;
      upper = sum_below-split i a (column (j + b)) ∙ ap (λ n. first_weights t i (j + b) + n) both;
      lower = sum_below-split i a (column j);
    }

pub block-one : (t : Lines) (i j : ℕ) → block_weight (crossing t) i j 1 1 ≡ crossing t i j
block-one t i j =
    let e : crossing t (i + 0) (j + 0) ≡ crossing t i j = ap (λ n. crossing t n (j + 0)) (add-zero i) ∙ ap (λ n. crossing t i n) (add-zero j) in
    omega (arith, e)

-- ---- how great they are

pub crossing-light : (t : Lines) (i j : ℕ) → IsLineTable t → crossing t i j ≤ 100000
crossing-light t i j h =
    let k = from_end (length t.rows) j * half (length t.columns) + from_end (length t.columns) i in
    elim (cases_lt k (length t.quarter)) [
      | inl l ↦ h.light k 0 l
      | inr l ↦ let e : get_or t.quarter k 0 ≡ 0 = get_or_past t.quarter k 0 l in omega arith
    ]

pub first_weights-small : (t : Lines) (i j : ℕ) → IsLineTable t → i ≤ length t.columns → j ≤ length t.rows → first_weights t i j ≤ 16000000000
first_weights-small t i j h p q =
    let column : (k : ℕ) → sum_below j (λ m. crossing t k m) ≤ j * 100000 =
    λ k. omega (arith, sum_below-le j (λ m. crossing t k m) (λ m. 100000) (λ m l. crossing-light t k m h), sum_below-const j 100000 (λ m. 100000) (λ m l. refl)) in
    let whole : first_weights t i j ≤ i * (j * 100000) =
    omega (arith, sum_below-le i (λ k. sum_below j (λ m. crossing t k m)) (λ k. j * 100000) (λ k l. column k), sum_below-const i (j * 100000) (λ k. j * 100000) (λ k l. refl)) in
    let wide : i ≤ 2 * half (length t.columns) = omega arith in
    let high : j ≤ 2 * half (length t.rows) = omega arith in
    let area : i * j ≤ (2 * half (length t.columns)) * (2 * half (length t.rows)) = mul-le i j (2 * half (length t.columns)) (2 * half (length t.rows)) wide high in
    let few : half (length t.rows) * half (length t.columns) ≤ 40000 = omega (arith, h.count, h.few) in
    omega arith

-- ---- the sums one by one

pub AreSums-none : (t : Lines) → AreSums t 0 []
AreSums-none t = record { count = refl; at = λ i j p q. absurd (omega arith) }

pub AreSums-more : (t : Lines) (n v : ℕ) (sums : List ℕ) → AreSums t n sums → v ≡ first_weights t (n % (length t.columns + 1)) (n / (length t.columns + 1)) → AreSums t (n + 1) (sums ++ v ∷ [])
AreSums-more t n v sums h e =
    let w = length t.columns + 1 in
    record {
      count = omega (arith, length-append sums (v ∷ []), h.count);
      at = λ i j p q.
          elim (cases_lt (j * w + i) n) [
            | inl l ↦ get_or-append sums (v ∷ []) 0 (j * w + i) (omega (arith, h.count)) ∙ h.at i j p l
            | inr l ↦
                let same : j * w + i ≡ n = omega arith in
                let row : n / w ≡ j = ap (λ k. k / w) (sym same) ∙ div-mul-add j w i (omega arith) in
                let column : n % w ≡ i = ap (λ k. k % w) (sym same) ∙ mod-mul-add j w i (omega arith) in
                ap (λ k. get_or (sums ++ v ∷ []) k 0) (same ∙ sym h.count) ∙ get_or-append_seam sums v [] 0 ∙ e ∙ ap (λ k. first_weights t k (n / w)) column ∙ ap (λ k. first_weights t i k) row
          ];
    }

-- the next sum, where a column and a row come before it: from the weight of their crossing, and three sums before it
pub record NextSum (t : Lines) (n : ℕ) (sums : List ℕ) : Type 0 where
  pub rises : get_or sums (n - 1 - (length t.columns + 1)) 0 ≤ get_or sums (n - 1) 0
  pub value : get_or sums (n - (length t.columns + 1)) 0 + (get_or sums (n - 1) 0 - get_or sums (n - 1 - (length t.columns + 1)) 0) + crossing t (n % (length t.columns + 1) - 1) (n / (length t.columns + 1) - 1) ≡ first_weights t (n % (length t.columns + 1)) (n / (length t.columns + 1))
  pub small : first_weights t (n % (length t.columns + 1)) (n / (length t.columns + 1)) ≤ 16000000000

pub next-sum : (t : Lines) (n : ℕ) (sums : List ℕ) → IsLineTable t → AreSums t n sums → n < (length t.rows + 1) * (length t.columns + 1) → n % (length t.columns + 1) ≢ 0 → n / (length t.columns + 1) ≢ 0 → NextSum t n sums
next-sum t n sums h s p a b =
    let w = length t.columns + 1 in
    let i = n % w - 1 in
    let j = n / w - 1 in
    let column : n % w ≡ i + 1 = omega arith in
    let row : n / w ≡ j + 1 = omega arith in
    let below : n % w < w = mod_below n w (omega arith) in
    let few : n / w < length t.rows + 1 = div_below n w (length t.rows + 1) (omega arith) p in
    let rows : n / w * w ≡ j * w + w = ap (λ k. k * w) row ∙ omega arith in
    let place : n / w * w + n % w ≡ n = div-add-mod' n w in
    let up : (j + 1) * w ≡ j * w + w = omega arith in
    let at-left : n - 1 ≡ (j + 1) * w + i = omega arith in
    let at-corner : n - 1 - w ≡ j * w + i = omega arith in
    let at-under : n - w ≡ j * w + (i + 1) = omega arith in
    let left : get_or sums (n - 1) 0 ≡ first_weights t i (j + 1) = ap (λ k. get_or sums k 0) at-left ∙ s.at i (j + 1) (omega arith) (omega arith) in
    let corner : get_or sums (n - 1 - w) 0 ≡ first_weights t i j = ap (λ k. get_or sums k 0) at-corner ∙ s.at i j (omega arith) (omega arith) in
    let under : get_or sums (n - w) 0 ≡ first_weights t (i + 1) j = ap (λ k. get_or sums k 0) at-under ∙ s.at (i + 1) j (omega arith) (omega arith) in
    let whole : first_weights t (n % w) (n / w) ≡ first_weights t (i + 1) (j + 1) = ap (λ k. first_weights t k (n / w)) column ∙ ap (λ k. first_weights t (i + 1) k) row in
    let c : Corners t i j 1 1 = corners t i j 1 1 in
    let rises : first_weights t i j ≤ first_weights t i (j + 1) = first_weights-rows t i j 1 in
    record {
      rises = omega (arith, left, corner, rises);
      value = omega (arith, left, corner, under, whole, c.upper, c.lower, block-one t i j, rises);
      small = omega (arith, whole, first_weights-small t (i + 1) (j + 1) h (omega arith) (omega arith));
    }
