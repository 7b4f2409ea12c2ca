-- The cases of a layout that cross a line are few: each covers a cell of the line, and no two the same.
use Rattle.std.proofs.Common.{◌≡◌, ◌≢◌, ℕ, zero, suc, ◌+◌, ◌-◌, ◌*◌, ◌<◌, ◌≤◌, Bool, true, false, cond, eqb, List, [], ◌∷◌, ◌++◌, length, get_or, take, map, filter, ap, refl, ◌∙◌, inl, inr, arith}
use Rattle.std.specs.List.{count_by}
use Rattle.std.proofs.lemmas.Bool.{cases_Bool, cases_eq, eq-eqb, ne_eqb}
use Rattle.std.proofs.lemmas.List.{length-map, append-nil, map-append}
use Rattle.std.proofs.lemmas.List.Elements.{filter_more}
use Rattle.std.proofs.lemmas.List.Sums.{length-filter, sum_by-cons, sum_by-take-le}
use Rattle.plan_geometry.specs.declared.spots.Axis.{Axis}
use Rattle.plan_geometry.specs.declared.spots.Axis.TheVariants.{X, Y}
use Rattle.plan_geometry.specs.declared.spots.Spot.{Spot}
use Rattle.plan_geometry.specs.declared.instances.Inst.{Inst}
use Rattle.plan_geometry.specs.Layout.{extent, start, x_extent, y_extent, IsLayout}
use Rattle.plan_geometry.specs.Weight.{sum_below, spot_weight, total_weight}
use Rattle.plan_geometry.proofs.Counting.{sum_below-none, sum_below-same, sum_below-le, sum_below-const, weights, weights-le-total}
use Rattle.plan_geometry.proofs.Order.{extents-some}
use Rattle.contact_rules.specs.Steps.{span_of, crosses, crossing}
use Rattle.contact_rules.proofs.SpanSteps.{crosses-line}

-- the weight of a cell: 1 on the line, and else 0
abbrev at_line : ℕ → ℕ → ℕ
at_line line i = cond (eqb i line) 1 0

abbrev on_line : Axis → ℕ → ℕ → ℕ → ℕ
on_line X line i j = at_line line i
on_line Y line i j = at_line line j

at-same : (line i : ℕ) → i ≡ line → at_line line i ≡ 1
at-same line i e = rw (eq-eqb i line e) refl

at-other : (line i : ℕ) → i ≢ line → at_line line i ≡ 0
at-other line i n = rw (ne_eqb i line n) refl

-- ---- the line's weight over the pallet

one-below : (n line : ℕ) → sum_below n (λ i. at_line line i) ≤ 1
one-below zero line = omega arith
one-below (suc n) line =
    elim (cases_eq n line) [
      | inl e ↦
          let none : sum_below n (λ i. at_line line i) ≡ 0 = sum_below-none n (λ i. at_line line i) (λ i p. at-other line i (λ q. omega arith)) in
          omega (arith, at-same line n e)
      | inr ne ↦ omega (arith, one-below n line, at-other line n ne)
    ]

sum-times : (n k : ℕ) (f : ℕ → ℕ) → sum_below n (λ i. k * f i) ≡ k * sum_below n f
sum-times zero k f = omega arith
sum-times (suc n) k f = omega (arith, sum-times n k f)

times-one : (k m : ℕ) → m ≤ 1 → k * m ≤ k
times-one k zero h = omega arith
times-one k (suc zero) h = omega arith
times-one k (suc (suc m)) h = absurd (omega arith)

line-total : (a : Axis) (I : Inst) (line : ℕ) → total_weight (on_line a line) I ≤ 4000
line-total X I line =
    let W = I.w_side in
    let e : sum_below I.l_side (λ i. sum_below W (λ j. at_line line i)) ≡ sum_below I.l_side (λ i. W * at_line line i) =
    sum_below-same I.l_side (λ i. sum_below W (λ j. at_line line i)) (λ i. W * at_line line i) (λ i p. sum_below-const W (at_line line i) (λ j. at_line line i) (λ j q. refl)) in
    let t : sum_below I.l_side (λ i. W * at_line line i) ≡ W * sum_below I.l_side (λ i. at_line line i) = sum-times I.l_side W (λ i. at_line line i) in
    omega (arith, times-one W (sum_below I.l_side (λ i. at_line line i)) (one-below I.l_side line), I.sides.w_max)
line-total Y I line =
    let W = I.w_side in
    let le : sum_below I.l_side (λ i. sum_below W (λ j. at_line line j)) ≤ sum_below I.l_side (λ i. 1) =
    sum_below-le I.l_side (λ i. sum_below W (λ j. at_line line j)) (λ i. 1) (λ i p. one-below W line) in
    omega (arith, sum_below-const I.l_side 1 (λ i. 1) (λ i p. refl), I.sides.l_max)

-- ---- the weight of a case that crosses the line

term-le : (n : ℕ) (f : ℕ → ℕ) (i : ℕ) → i < n → f i ≤ sum_below n f
term-le zero f i lt = absurd (omega arith)
term-le (suc n) f i lt =
    elim (cases_eq i n) [
      | inl e ↦ let z : f i ≡ f n = ap f e in omega arith
      | inr ne ↦ omega (arith, term-le n f i (omega arith))
    ]

-- a line that the real case crosses is one of the lines of the whole case
pub line-within : (a : Axis) (I : Inst) (g line : ℕ) (s : Spot) → crosses a I g line s ≡ true → (start a s < line) × (line < start a s + extent a I s.way)
line-within a I g line s e = let c = crosses-line a I g line s e in (c.0, omega (arith, c.1))

case-weight : (a : Axis) (I : Inst) (g line : ℕ) (s : Spot) → crosses a I g line s ≡ true → 1 ≤ spot_weight (on_line a line) I s
case-weight X I g line s e =
    let c = line-within X I g line s e in
    let some = extents-some I s.way in
    let b = y_extent I s.way in
    let k : ℕ = line - s.x in
    let outer : sum_below b (λ j. at_line line (s.x + k)) ≤ spot_weight (on_line X line) I s =
    term-le (x_extent I s.way) (λ i. sum_below b (λ j. at_line line (s.x + i))) k (omega (arith, c.0, c.1)) in
    let inner : at_line line (s.x + k) ≤ sum_below b (λ j. at_line line (s.x + k)) = term-le b (λ j. at_line line (s.x + k)) 0 (omega (arith, some.1)) in
    omega (arith, at-same line (s.x + k) (omega (arith, c.0)))
case-weight Y I g line s e =
    let c = line-within Y I g line s e in
    let some = extents-some I s.way in
    let b = y_extent I s.way in
    let k : ℕ = line - s.y in
    let outer : sum_below b (λ j. at_line line (s.y + j)) ≤ spot_weight (on_line Y line) I s =
    term-le (x_extent I s.way) (λ i. sum_below b (λ j. at_line line (s.y + j))) 0 (omega (arith, some.0)) in
    let inner : at_line line (s.y + k) ≤ sum_below b (λ j. at_line line (s.y + j)) = term-le b (λ j. at_line line (s.y + j)) k (omega (arith, c.0, c.1)) in
    omega (arith, at-same line (s.y + k) (omega (arith, c.0)))

abbrev one : Bool → ℕ
one b = cond b 1 0

one-case : (a : Axis) (I : Inst) (g line : ℕ) (s : Spot) → one (crosses a I g line s) ≤ spot_weight (on_line a line) I s
one-case a I g line s =
    elim (cases_Bool (crosses a I g line s)) [
      | inl e ↦ rw e (case-weight a I g line s e)
      | inr e ↦ rw e (omega arith)
    ]

count-le-weights : (a : Axis) (I : Inst) (g line : ℕ) (xs : List Spot) → count_by (λ s. crosses a I g line s) xs ≤ weights (on_line a line) I xs
count-le-weights a I g line [] = omega arith
count-le-weights a I g line (s ∷ xs) =
    let cons : count_by (λ t. crosses a I g line t) (s ∷ xs) ≡ one (crosses a I g line s) + count_by (λ t. crosses a I g line t) xs =
    sum_by-cons (λ t. one (crosses a I g line t)) s xs in
    omega (arith, count-le-weights a I g line xs, one-case a I g line s)

pub crossing-few : (a : Axis) (I : Inst) (g line i : ℕ) (xs : List Spot) → IsLayout I xs → length (crossing a I g line (take i xs)) ≤ 4000
crossing-few a I g line i xs h =
    let f : Spot → Bool = λ s. crosses a I g line s in
    let e : length (crossing a I g line (take i xs)) ≡ count_by (λ s. crosses a I g line s) (take i xs) =
    length-map (filter (λ s. crosses a I g line s) (take i xs)) (λ s. span_of a I g s) ∙ length-filter (λ s. crosses a I g line s) (take i xs) in
    omega (arith, sum_by-take-le (λ s. one (crosses a I g line s)) xs i, count-le-weights a I g line xs, weights-le-total (on_line a line) I xs h, line-total a I line)

-- ---- one more case

chosen-spans : (a : Axis) (I : Inst) (g line i : ℕ) (d : Spot) (xs : List Spot) → i < length xs → crossing a I g line (take (i + 1) xs) ≡ crossing a I g line (take i xs) ++ map (λ s. span_of a I g s) (cond (crosses a I g line (get_or xs i d)) (get_or xs i d ∷ []) [])
chosen-spans a I g line i d xs lt =
    let f : List Spot → List Spot = λ l. filter (λ s. crosses a I g line s) l in
    ap (λ l. map (λ s. span_of a I g s) l) (filter_more (λ s. crosses a I g line s) xs i d lt) ∙ map-append (λ s. span_of a I g s) (filter (λ s. crosses a I g line s) (take i xs)) (cond (crosses a I g line (get_or xs i d)) (get_or xs i d ∷ []) [])

pub crossing-yes : (a : Axis) (I : Inst) (g line i : ℕ) (d : Spot) (xs : List Spot) → i < length xs → crosses a I g line (get_or xs i d) ≡ true → crossing a I g line (take (i + 1) xs) ≡ crossing a I g line (take i xs) ++ span_of a I g (get_or xs i d) ∷ []
crossing-yes a I g line i d xs lt e =
    chosen-spans a I g line i d xs lt ∙ ap (λ b. crossing a I g line (take i xs) ++ map (λ s. span_of a I g s) (cond b (get_or xs i d ∷ []) [])) e

pub crossing-no : (a : Axis) (I : Inst) (g line i : ℕ) (d : Spot) (xs : List Spot) → i < length xs → crosses a I g line (get_or xs i d) ≡ false → crossing a I g line (take (i + 1) xs) ≡ crossing a I g line (take i xs)
crossing-no a I g line i d xs lt e =
    chosen-spans a I g line i d xs lt ∙ (ap (λ b. crossing a I g line (take i xs) ++ map (λ s. span_of a I g s) (cond b (get_or xs i d ∷ []) [])) e ∙ append-nil (crossing a I g line (take i xs)))
