-- Sums over blocks of cells, and the sums that a table keeps.
use Rattle.std.proofs.Common.{◌≡◌, ℕ, zero, suc, ◌+◌, ◌-◌, ◌*◌, ◌/◌, ◌%◌, ◌<◌, ◌≤◌, List, length, get_or, set, sym, ap, subst, ◌∙◌, refl, inl, inr, arith, add_assoc, add-zero, zero-add}
use Rattle.std.specs.List.{All}
use Rattle.std.proofs.lemmas.Bool.{cases_lt, cases_eq, ne_eqb}
use Rattle.std.proofs.lemmas.List.{length-set, get_or-set_same, get_or-set_other, get_or_past}
use Rattle.std.proofs.lemmas.List.FromFn.{fill_by_all}
use Rattle.std.proofs.lemmas.Nat.{div-add-mod', mod_below, div_below, div-mul-add, mod-mul-add, mul-add-lt, mul-le}
use Rattle.plan_geometry.specs.Weight.{sum_below, block_weight}
use Rattle.plan_geometry.proofs.Counting.{sum_below-none, sum_below-same, sum_below-le, sum_below-add, sum_below-const, sum_below-split}
use Rattle.weightings.specs.Table.{cell_in, IsTable}
use Rattle.weightings.specs.Sums.{sum_at, cell_from, cells_from, AreSums, HoldSums}

-- ---- blocks

-- the weight of the x by y cells from the corner (0, 0) on
abbrev pub before : (ℕ → ℕ → ℕ) → ℕ → ℕ → ℕ
before g x y = block_weight g 0 0 x y

block-across : (g : ℕ → ℕ → ℕ) (x y a c b : ℕ) → block_weight g x y (a + c) b ≡ block_weight g x y a b + block_weight g (x + a) y c b
block-across g x y a c b =
    let F : ℕ → ℕ = λ i. sum_below b (λ j. g (x + i) (y + j)) in
    sum_below-split a c F ∙ ap (λ n. sum_below a F + n) (sum_below-same c (λ i. F (a + i)) (λ i. sum_below b (λ j. g ((x + a) + i) (y + j))) (λ i l. ap (λ u. sum_below b (λ j. g u (y + j))) (sym (add_assoc x a i))))

block-along : (g : ℕ → ℕ → ℕ) (x y a b d : ℕ) → block_weight g x y a (b + d) ≡ block_weight g x y a b + block_weight g x (y + b) a d
block-along g x y a b d =
    let R : ℕ → ℕ = λ i. sum_below b (λ j. g (x + i) (y + j)) in
    let S : ℕ → ℕ = λ i. sum_below d (λ j. g (x + i) ((y + b) + j)) in
    sum_below-same a (λ i. sum_below (b + d) (λ j. g (x + i) (y + j))) (λ i. R i + S i) (λ i l. sum_below-split b d (λ j. g (x + i) (y + j)) ∙ ap (λ n. R i + n) (sum_below-same d (λ j. g (x + i) (y + (b + j))) (λ j. g (x + i) ((y + b) + j)) (λ j k. ap (λ v. g (x + i) v) (sym (add_assoc y b j))))) ∙ sum_below-add a R S

-- a block, and the sums before its four corners
pub record Corners (g : ℕ → ℕ → ℕ) (x y a b : ℕ) : Type 0 where
  pub upper : before g (x + a) (y + b) ≡ before g x (y + b) + block_weight g x 0 a (y + b)
  pub lower : before g (x + a) y ≡ before g x y + block_weight g x 0 a y
  pub both : block_weight g x 0 a (y + b) ≡ block_weight g x 0 a y + block_weight g x y a b

pub corners : (g : ℕ → ℕ → ℕ) (x y a b : ℕ) → Corners g x y a b
corners g x y a b =
    let turn : (h : ℕ) → block_weight g (0 + x) 0 a h ≡ block_weight g x 0 a h = λ h. ap (λ u. block_weight g u 0 a h) (zero-add x) in
    record {
      upper = block-across g 0 0 x a (y + b) ∙ ap (λ n. before g x (y + b) + n) (turn (y + b));
      lower = block-across g 0 0 x a y ∙ ap (λ n. before g x y + n) (turn y);
      both = block-along g x 0 a y b ∙ ap (λ v. block_weight g x 0 a y + block_weight g x v a b) (zero-add y);
    }

pub block-single : (g : ℕ → ℕ → ℕ) (x y : ℕ) → block_weight g x y 1 1 ≡ g x y
block-single g x y =
    let e : g (x + 0) (y + 0) ≡ g x y = ap (λ u. g u (y + 0)) (add-zero x) ∙ ap (λ v. g x v) (add-zero y) in
    omega (arith, e)

-- cells of at most this weight
pub block-light : (g : ℕ → ℕ → ℕ) (m x y a b : ℕ) → ((i j : ℕ) → g i j ≤ m) → block_weight g x y a b ≤ a * (b * m)
block-light g m x y a b h =
    let row : (i : ℕ) → sum_below b (λ j. g (x + i) (y + j)) ≤ b * m =
    λ i. omega (arith, sum_below-le b (λ j. g (x + i) (y + j)) (λ j. m) (λ j l. h (x + i) (y + j)), sum_below-const b m (λ j. m) (λ j l. refl)) in
    omega (arith, sum_below-le a (λ i. sum_below b (λ j. g (x + i) (y + j))) (λ i. b * m) (λ i l. row i), sum_below-const a (b * m) (λ i. b * m) (λ i l. refl))

before-no_column : (g : ℕ → ℕ → ℕ) (y : ℕ) → before g 0 y ≡ 0
before-no_column g y = refl

before-no_row : (g : ℕ → ℕ → ℕ) (x : ℕ) → before g x 0 ≡ 0
before-no_row g x = sum_below-none x (λ i. 0) (λ i l. refl)

-- ---- what is kept

sum_at-no_column : (X : ℕ) (sums : List ℕ) (y : ℕ) → sum_at X sums 0 y ≡ 0
sum_at-no_column X sums y = refl

sum_at-no_row : (X : ℕ) (sums : List ℕ) (x : ℕ) → sum_at X sums x 0 ≡ 0
sum_at-no_row X sums x =
    elim (cases_eq x 0) [
      | inl e ↦ let P : ℕ → Type 0 = λ n. sum_at X sums n 0 ≡ 0 in subst P (sym e) refl
      | inr n ↦ rw (ne_eqb x 0 n) refl
    ]

sum_at-some : (X : ℕ) (sums : List ℕ) (x y : ℕ) → sum_at X sums (x + 1) (y + 1) ≡ get_or sums (y * X + x) 0
sum_at-some X sums x y =
    let ex : x + 1 - 1 ≡ x = omega arith in
    let ey : y + 1 - 1 ≡ y = omega arith in
    rw (ne_eqb (x + 1) 0 (λ e. absurd (omega arith)), ne_eqb (y + 1) 0 (λ e. absurd (omega arith)), ex, ey) refl

-- the first n places hold sums, and the others what they held before
pub record SummedTo (X : ℕ) (cells : List ℕ) (n : ℕ) (now : List ℕ) : Type 0 where
  pub count : length now ≡ length cells
  pub rest : (k : ℕ) → n ≤ k → get_or now k 0 ≡ get_or cells k 0
  pub sums : (x y : ℕ) → x < X → y * X + x < n → get_or now (y * X + x) 0 ≡ before (cell_in X cells) (x + 1) (y + 1)

pub SummedTo-none : (X : ℕ) (cells : List ℕ) → SummedTo X cells 0 cells
SummedTo-none X cells = record { count = refl; rest = λ k l. refl; sums = λ x y l m. absurd (omega arith) }

-- what is read there
pub sum_at-upto : (X : ℕ) (cells : List ℕ) (n : ℕ) (now : List ℕ) (x y : ℕ) → SummedTo X cells n now → x ≤ X → (0 < x → 0 < y → (y - 1) * X + (x - 1) < n) → sum_at X now x y ≡ before (cell_in X cells) x y
sum_at-upto X cells n now zero y h l k = refl
sum_at-upto X cells n now (suc x) zero h l k = sum_at-no_row X now (suc x) ∙ sym (before-no_row (cell_in X cells) (suc x))
sum_at-upto X cells n now (suc x) (suc y) h l k =
    let ex : suc x ≡ x + 1 = omega arith in
    let ey : suc y ≡ y + 1 = omega arith in
    let e : (suc y - 1) * X + (suc x - 1) ≡ y * X + x = let u : suc x - 1 ≡ x = omega arith in let v : suc y - 1 ≡ y = omega arith in ap (λ i. (suc y - 1) * X + i) u ∙ ap (λ j. j * X + x) v in
    let q : y * X + x < n = omega (arith, k (omega arith) (omega arith)) in
    ap (λ i. sum_at X now i (suc y)) ex ∙ ap (λ j. sum_at X now (x + 1) j) ey ∙ sum_at-some X now x y ∙ h.sums x y (omega arith) q ∙ sym (ap (λ i. before (cell_in X cells) i (suc y)) ex ∙ ap (λ j. before (cell_in X cells) (x + 1) j) ey)

-- the next cell's sum, from its weight and three sums before it
pub record NextSum (X : ℕ) (cells : List ℕ) (n : ℕ) (now : List ℕ) : Type 0 where
  pub row : sum_at X now (n % X) (n / X) ≤ sum_at X now (n % X) (n / X + 1)
  pub value : get_or now n 0 + ((sum_at X now (n % X) (n / X + 1) - sum_at X now (n % X) (n / X)) + sum_at X now (n % X + 1) (n / X)) ≡ before (cell_in X cells) (n % X + 1) (n / X + 1)

pub next-sum : (X : ℕ) (cells : List ℕ) (n : ℕ) (now : List ℕ) → 1 ≤ X → SummedTo X cells n now → NextSum X cells n now
next-sum X cells n now some h =
    let g : ℕ → ℕ → ℕ = cell_in X cells in
    let x = n % X in
    let y = n / X in
    let e : y * X + x ≡ n = div-add-mod' n X in
    let l : x < X = mod_below n X (omega arith) in
    let low : (i : ℕ) → i ≤ X → 0 < i → 0 < y → (y - 1) * X + (i - 1) < n = λ i p q r.
    let m : suc (y - 1) * X ≡ y * X = ap (λ j. j * X) (let z : suc (y - 1) ≡ y = omega arith in z) in
    omega arith in
    let same : 0 < x → 0 < y + 1 → (y + 1 - 1) * X + (x - 1) < n = λ p q.
    let v : (y + 1 - 1) * X ≡ y * X = ap (λ j. j * X) (let z : y + 1 - 1 ≡ y = omega arith in z) in
    omega arith in
    let c : Corners g x y 1 1 = corners g x y 1 1 in
    let up : sum_at X now x (y + 1) ≡ before g x (y + 1) = sum_at-upto X cells n now x (y + 1) h (omega arith) same in
    let here : sum_at X now x y ≡ before g x y = sum_at-upto X cells n now x y h (omega arith) (low x (omega arith)) in
    let right : sum_at X now (x + 1) y ≡ before g (x + 1) y = sum_at-upto X cells n now (x + 1) y h (omega arith) (low (x + 1) (omega arith)) in
    let cell : block_weight g x y 1 1 ≡ get_or now n 0 = block-single g x y ∙ ap (λ k. get_or cells k 0) e ∙ sym (h.rest n (omega arith)) in
    let grow : before g x (y + 1) ≡ before g x y + block_weight g 0 y x 1 = block-along g 0 0 x y 1 ∙ ap (λ v. before g x y + block_weight g 0 v x 1) (zero-add y) in
    record {
      row = omega (arith, up, here, grow);
      value = omega (arith, up, here, right, cell, grow, c.upper, c.lower, c.both);
    }

pub SummedTo-more : (X : ℕ) (cells : List ℕ) (n v : ℕ) (now : List ℕ) → 1 ≤ X → n < length now → SummedTo X cells n now → v ≡ before (cell_in X cells) (n % X + 1) (n / X + 1) → SummedTo X cells (n + 1) (set now n v)
SummedTo-more X cells n v now some l h e =
    record {
      count = length-set now n v ∙ h.count;
      rest = λ k p. get_or-set_other now n k v 0 (λ q. absurd (omega arith)) ∙ h.rest k (omega arith);
      sums = λ x y p q.
          elim (cases_eq (y * X + x) n) [
            | inl s ↦
                let d : n / X ≡ y = ap (λ m. m / X) (sym s) ∙ div-mul-add y X x p in
                let m : n % X ≡ x = ap (λ k. k % X) (sym s) ∙ mod-mul-add y X x p in
                ap (λ k. get_or (set now n v) k 0) s ∙ get_or-set_same now n v 0 l ∙ e ∙ ap (λ i. before (cell_in X cells) (i + 1) (n / X + 1)) m ∙ ap (λ j. before (cell_in X cells) (x + 1) (j + 1)) d
            | inr s ↦ get_or-set_other now n (y * X + x) v 0 s ∙ h.sums x y p (omega arith)
          ];
    }

-- a weight of a list of which none is heavy
pub cell-light : (m : ℕ) (cells : List ℕ) (k : ℕ) → All (λ w. w ≤ m) cells → get_or cells k 0 ≤ m
cell-light m cells k h =
    elim (cases_lt k (length cells)) [
      | inl l ↦ h k 0 l
      | inr l ↦ let e : get_or cells k 0 ≡ 0 = get_or_past cells k 0 l in omega arith
    ]

-- the sums of a table are small
pub before-small : (X Y : ℕ) (cells : List ℕ) (x y : ℕ) → IsTable X Y cells → x ≤ X → y ≤ Y → before (cell_in X cells) x y ≤ 4000000000
before-small X Y cells x y t p q =
    let light : before (cell_in X cells) x y ≤ x * (y * 100000) = block-light (cell_in X cells) 100000 0 0 x y (λ i j. cell-light 100000 cells (j * X + i) t.light) in
    let area : x * y ≤ X * Y = mul-le x y X Y p q in
    let few = t.few in
    omega arith

pub AreSums-all : (X Y : ℕ) (cells now : List ℕ) → IsTable X Y cells → SummedTo X cells (length now) now → AreSums X Y cells now
AreSums-all X Y cells now t h =
    record {
      count = h.count ∙ t.count;
      at = λ x y p q.
          h.sums x y p (omega (arith, mul-add-lt y X x Y q p, h.count, t.count));
    }

-- what is read of sums
pub sum_at-before : (X Y : ℕ) (cells sums : List ℕ) (x y : ℕ) → AreSums X Y cells sums → x ≤ X → y ≤ Y → sum_at X sums x y ≡ before (cell_in X cells) x y
sum_at-before X Y cells sums zero y a p q = refl
sum_at-before X Y cells sums (suc x) zero a p q = sum_at-no_row X sums (suc x) ∙ sym (before-no_row (cell_in X cells) (suc x))
sum_at-before X Y cells sums (suc x) (suc y) a p q =
    let ex : suc x ≡ x + 1 = omega arith in
    let ey : suc y ≡ y + 1 = omega arith in
    ap (λ i. sum_at X sums i (suc y)) ex ∙ ap (λ j. sum_at X sums (x + 1) j) ey ∙ sum_at-some X sums x y ∙ a.at x y (omega arith) (omega arith) ∙ sym (ap (λ i. before (cell_in X cells) i (suc y)) ex ∙ ap (λ j. before (cell_in X cells) (x + 1) j) ey)

-- the weights are got back from the sums
pub cells_from-sums : (X Y : ℕ) (cells sums : List ℕ) → IsTable X Y cells → AreSums X Y cells sums → cells_from X Y sums ≡ cells
unfolding cells_from
cells_from-sums X Y cells sums t a =
    sym (fill_by_all (λ n. cell_from X sums (n % X) (n / X)) cells (X * Y) 0 t.count (λ k l.
    let g : ℕ → ℕ → ℕ = cell_in X cells in
    let some : 0 < X = omega (arith, t.some_x) in
    let x = k % X in
    let y = k / X in
    let e : y * X + x ≡ k = div-add-mod' k X in
    let p : x < X = mod_below k X some in
    let q : y < Y = div_below k X Y some (omega arith) in
    let c : Corners g x y 1 1 = corners g x y 1 1 in
    let one : block_weight g x y 1 1 ≡ get_or cells k 0 = block-single g x y ∙ ap (λ n. get_or cells n 0) e in
    let grow : before g x (y + 1) ≡ before g x y + block_weight g 0 y x 1 = block-along g 0 0 x y 1 ∙ ap (λ v. before g x y + block_weight g 0 v x 1) (zero-add y) in
    let a1 = sum_at-before X Y cells sums (x + 1) (y + 1) a (omega arith) (omega arith) in
    let a2 = sum_at-before X Y cells sums x (y + 1) a (omega arith) (omega arith) in
    let a3 = sum_at-before X Y cells sums (x + 1) y a (omega arith) (omega arith) in
    let a4 = sum_at-before X Y cells sums x y a (omega arith) (omega arith) in
    omega (arith, a1, a2, a3, a4, one, grow, c.upper, c.lower, c.both)))

pub HoldSums-made : (X Y : ℕ) (cells sums : List ℕ) → IsTable X Y cells → AreSums X Y cells sums → HoldSums X Y sums
HoldSums-made X Y cells sums t a =
    let e : cells ≡ cells_from X Y sums = sym (cells_from-sums X Y cells sums t a) in
    record {
      table = subst (λ (xs : List ℕ). IsTable X Y xs) e t;
      summed = subst (λ (xs : List ℕ). AreSums X Y xs sums) e a;
    }
