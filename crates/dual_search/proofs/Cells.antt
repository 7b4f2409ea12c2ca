-- Blocks of cells, one of which weighs one more.
use Rattle.std.proofs.Common.{◌≡◌, ℕ, zero, suc, ◌+◌, ◌-◌, ◌*◌, ◌/◌, ◌%◌, ◌<◌, ◌≤◌, ◌≢◌, ◌⊎◌, inl, inr, List, length, get_or, set, arith, subst, sym, ap, ◌∙◌}
use Rattle.std.proofs.lemmas.Bool.{cases_eq, cases_lt}
use Rattle.std.proofs.lemmas.List.{get_or-set_same, get_or-set_other}
use Rattle.std.proofs.lemmas.Nat.{div-mul-add, mod-mul-add}
use Rattle.plan_geometry.specs.declared.instances.Inst.{Inst}
use Rattle.plan_geometry.specs.Weight.{sum_below, block_weight, total_weight}
use Rattle.plan_geometry.proofs.Counting.{sum_below-same}
use Rattle.weightings.specs.Table.{cell_in}
use Rattle.dual_search.specs.Raising.{IsInBlock}

-- one term of a sum is greater by 1
sum-one_more :
    (n k : ℕ) (f g : ℕ → ℕ)
    → k < n
    → f k ≡ g k + 1
    → ((i : ℕ) → i < n → i ≢ k → f i ≡ g i)
    → sum_below n f ≡ sum_below n g + 1
sum-one_more zero k f g lt e h = absurd (omega (arith, lt))
sum-one_more (suc n) k f g lt e h =
    elim (cases_eq k n) [
      | inl last ↦
          let same : sum_below n f ≡ sum_below n g = sum_below-same n f g (λ i p. h i (omega (arith, p)) (omega (arith, last, p))) in
          let here : f n ≡ g n + 1 = subst (λ j. f j ≡ g j + 1) last e in
          omega (arith, same, here)
      | inr before ↦
          let rest : sum_below n f ≡ sum_below n g + 1 = sum-one_more n k f g (omega (arith, lt, before)) e (λ i p q. h i (omega (arith, p)) q) in
          let same : f n ≡ g n = h n (omega arith) (λ x. before (sym x)) in
          omega (arith, rest, same)
    ]

-- of the cells by rows of L, that in column c of row r is at place n
pub record IsCell (L n c r : ℕ) : Type 0 where
  pub column : c < L
  pub place : r * L + c ≡ n

cell-here : (L n c r : ℕ) (cells : List ℕ) (u v : ℕ) → IsCell L n c r → n < length cells → u ≡ c → v ≡ r → cell_in L (set cells n (get_or cells n 0 + 1)) u v ≡ cell_in L cells u v + 1
cell-here L n c r cells u v is lt eu ev =
    let here : v * L + u ≡ n = ap (λ w. w * L + u) ev ∙ (ap (λ w. r * L + w) eu ∙ is.place) in
    let new : get_or (set cells n (get_or cells n 0 + 1)) (v * L + u) 0 ≡ get_or cells n 0 + 1 =
    ap (λ k. get_or (set cells n (get_or cells n 0 + 1)) k 0) here ∙ get_or-set_same cells n (get_or cells n 0 + 1) 0 lt in
    let old : get_or cells (v * L + u) 0 ≡ get_or cells n 0 = ap (λ k. get_or cells k 0) here in
    omega (arith, new, old)

cell-other : (L n c r : ℕ) (cells : List ℕ) (m u v : ℕ) → IsCell L n c r → u < L → (u ≡ c → v ≡ r → ⊥) → cell_in L (set cells n m) u v ≡ cell_in L cells u v
cell-other L n c r cells m u v is lt unfit =
    let ne : v * L + u ≢ n = λ e. unfit (column (e ∙ sym is.place)) (row (e ∙ sym is.place)) in
    get_or-set_other cells n (v * L + u) m 0 ne
  where
    column : v * L + u ≡ r * L + c → u ≡ c
    column e = sym (mod-mul-add v L u lt) ∙ (ap (λ k. k % L) e ∙ mod-mul-add r L c is.column)

    row : v * L + u ≡ r * L + c → v ≡ r
    row e = sym (div-mul-add v L u lt) ∙ (ap (λ k. k / L) e ∙ div-mul-add r L c is.column)

-- the block has the cell
pub block-more :
    (L n c r : ℕ) (cells : List ℕ) (x y a b : ℕ)
    → IsCell L n c r
    → n < length cells
    → x + a ≤ L
    → IsInBlock x y a b c r
    → block_weight (cell_in L (set cells n (get_or cells n 0 + 1))) x y a b ≡ block_weight (cell_in L cells) x y a b + 1
block-more L n c r cells x y a b is lt fits within =
    sum-one_more a (c - x) (λ i. sum_below b (λ j. new (x + i) (y + j))) (λ i. sum_below b (λ j. old (x + i) (y + j)))
    (omega (arith, within.0, within.1))
    (sum-one_more b (r - y) (λ j. new (x + (c - x)) (y + j)) (λ j. old (x + (c - x)) (y + j)) (omega (arith, within.2, within.3))
    (cell-here L n c r cells (x + (c - x)) (y + (r - y)) is lt (omega (arith, within.0)) (omega (arith, within.2)))
    (λ j p q. cell-other L n c r cells (get_or cells n 0 + 1) (x + (c - x)) (y + j) is (omega (arith, within.0, is.column)) (λ e f. q (omega (arith, f)))))
    (λ i p q. sum_below-same b (λ j. new (x + i) (y + j)) (λ j. old (x + i) (y + j))
    (λ j s. cell-other L n c r cells (get_or cells n 0 + 1) (x + i) (y + j) is (omega (arith, p, fits)) (λ e f. q (omega (arith, e)))))
  where
    new : ℕ → ℕ → ℕ
    new u v = cell_in L (set cells n (get_or cells n 0 + 1)) u v

    old : ℕ → ℕ → ℕ
    old u v = cell_in L cells u v

-- the block does not have the cell
pub block-same :
    (L n c r : ℕ) (cells : List ℕ) (m x y a b : ℕ)
    → IsCell L n c r
    → x + a ≤ L
    → (IsInBlock x y a b c r → ⊥)
    → block_weight (cell_in L (set cells n m)) x y a b ≡ block_weight (cell_in L cells) x y a b
block-same L n c r cells m x y a b is fits unfit =
    sum_below-same a (λ i. sum_below b (λ j. cell_in L (set cells n m) (x + i) (y + j))) (λ i. sum_below b (λ j. cell_in L cells (x + i) (y + j)))
    (λ i p. sum_below-same b (λ j. cell_in L (set cells n m) (x + i) (y + j)) (λ j. cell_in L cells (x + i) (y + j))
    (λ j q. cell-other L n c r cells m (x + i) (y + j) is (omega (arith, p, fits))
    (λ e f. unfit (omega (arith, e), omega (arith, e, p), omega (arith, f), omega (arith, f, q)))))

-- the whole pallet weighs one more
pub total-more :
    (I : Inst) (n c r : ℕ) (cells : List ℕ)
    → IsCell I.l_side n c r
    → n < length cells
    → r < I.w_side
    → total_weight (cell_in I.l_side (set cells n (get_or cells n 0 + 1))) I ≡ total_weight (cell_in I.l_side cells) I + 1
total-more I n c r cells is lt below =
    sum-one_more I.l_side c (λ i. sum_below I.w_side (λ j. new i j)) (λ i. sum_below I.w_side (λ j. old i j)) is.column
    (sum-one_more I.w_side r (λ j. new c j) (λ j. old c j) below
    (cell-here I.l_side n c r cells c r is lt (omega arith) (omega arith))
    (λ j p q. cell-other I.l_side n c r cells (get_or cells n 0 + 1) c j is is.column (λ e f. q f)))
    (λ i p q. sum_below-same I.w_side (λ j. new i j) (λ j. old i j)
    (λ j s. cell-other I.l_side n c r cells (get_or cells n 0 + 1) i j is p (λ e f. q e)))
  where
    new : ℕ → ℕ → ℕ
    new u v = cell_in I.l_side (set cells n (get_or cells n 0 + 1)) u v

    old : ℕ → ℕ → ℕ
    old u v = cell_in I.l_side cells u v

pub cases_block : (x y a b u v : ℕ) → IsInBlock x y a b u v ⊎ (IsInBlock x y a b u v → ⊥)
cases_block x y a b u v =
    elim (cases_lt u x) [
      | inl less ↦ inr (λ p. omega (arith, less, p.0))
      | inr from ↦ elim (cases_lt u (x + a)) [
        | inr beyond ↦ inr (λ p. omega (arith, beyond, p.1))
        | inl below ↦ elim (cases_lt v y) [
          | inl less ↦ inr (λ p. omega (arith, less, p.2))
          | inr above ↦ elim (cases_lt v (y + b)) [
            | inr beyond ↦ inr (λ p. omega (arith, beyond, p.3))
            | inl within ↦ inl (from, below, above, within)
          ]
        ]
      ]
    ]
