-- Rising lines, how many of them stand before a place, and sums over the places that are lines.
use Rattle.std.proofs.Common.{◌≡◌, ◌≢◌, ℕ, zero, suc, ◌+◌, ◌-◌, ◌<◌, ◌≤◌, ◌⊎◌, ◌==◌, Bool, true, false, cond, ltb, ltb-true, List, [], ◌∷◌, length, get_or, Option, Some, None, Result, Ok, Err, sym, ap, subst, ◌∙◌, refl, inl, inr, arith}
use Rattle.std.specs.List.{All, prefix_len, position_or_len, IsAllAdjacentAnswer}
use Rattle.std.specs.Result.{MatchResult, result_ok}
use Rattle.std.specs.List.Sorted.{IsStrictlyIncreasing}
use Rattle.std.proofs.lemmas.Bool.{cases_lt, cases_eq, eq-eqb, ne_eqb, lt-ltb, ltb-false}
use Rattle.std.proofs.lemmas.Bool.Decides.{nat_tests}
use Rattle.std.proofs.lemmas.List.{get_or_default}
use Rattle.std.proofs.lemmas.List.Kept.{AllPairs-from_increasing}
use Rattle.std.proofs.lemmas.List.Sums.{sum_by-cons, position_or_len_is, prefix_len_passes, prefix_len_stops, prefix_len-le-length}
use Rattle.plan_geometry.specs.Weight.{sum_below}
use Rattle.plan_geometry.proofs.Counting.{sum_below-none, sum_below-split}
use Rattle.line_tables.specs.Lines.{line_at, on_line, AreLines}
use Rattle.line_tables.specs.Laws.{lines_below, lines_among}

-- ---- where lines stand

pub rising-pair : (lines : List ℕ) (j k : ℕ) → IsStrictlyIncreasing lines → j < k → k < length lines → get_or lines j 0 < get_or lines k 0
rising-pair lines j k up p q = AllPairs-from_increasing lines up j k 0 p q

pub rising-le : (lines : List ℕ) (j k d : ℕ) → IsStrictlyIncreasing lines → j ≤ k → k < length lines → get_or lines j d ≤ get_or lines k d
rising-le lines j k d up l p =
    elim (cases_eq j k) [
      | inl e ↦
          let same : get_or lines j d ≡ get_or lines k d = ap (λ i. get_or lines i d) e in
          omega arith
      | inr n ↦ omega (arith, AllPairs-from_increasing lines up j k d (omega arith) p)
    ]

-- each line is at least as far from 0 as lines stand before it
rising-index : (lines : List ℕ) (k : ℕ) → IsStrictlyIncreasing lines → k < length lines → k ≤ get_or lines k 0
rising-index lines zero up p = omega arith
rising-index lines (suc k) up p =
    omega (arith, rising-index lines k up (omega arith), rising-pair lines k (suc k) up (omega arith) p)

pub lines-few : (lines : List ℕ) → AreLines lines → length lines ≤ 4000
lines-few lines h =
    let some = h.some in
    let k = length lines - 1 in
    let p : k < length lines = omega arith in
    omega (arith, rising-index lines k h.rising p, h.low k 0 p)

-- the first m lines stand before v, and no other does
pub record IsSplit (lines : List ℕ) (v m : ℕ) : Type 0 where
  pub few : m ≤ length lines
  pub before : (k : ℕ) → k < m → get_or lines k 0 < v
  pub after : (k : ℕ) → m ≤ k → k < length lines → v ≤ get_or lines k 0

pub lines_below-split : (lines : List ℕ) (v m : ℕ) → IsSplit lines v m → lines_below lines v ≡ m
lines_below-split [] v m h = omega (arith, h.few)
lines_below-split (x ∷ xs) v zero h =
    let e : lines_below xs v ≡ 0 = lines_below-split xs v 0 (record { few = omega arith; before = λ k p. absurd (omega arith); after = λ k p q. h.after (suc k) (omega arith) (omega arith) }) in
    let l : v ≤ x = h.after 0 (omega arith) (omega arith) in
    let b : ltb x v ≡ false = grind (arith, nat_tests) in
    sum_by-cons (λ line. cond (ltb line v) 1 0) x xs ∙ ap (λ c. cond c 1 0 + lines_below xs v) b ∙ omega (arith, e)
lines_below-split (x ∷ xs) v (suc m) h =
    let e : lines_below xs v ≡ m = lines_below-split xs v m (record { few = omega (arith, h.few); before = λ k p. h.before (suc k) (omega arith); after = λ k p q. h.after (suc k) (omega arith) (omega arith) }) in
    let l : x < v = h.before 0 (omega arith) in
    sum_by-cons (λ line. cond (ltb line v) 1 0) x xs ∙ ap (λ c. cond c 1 0 + lines_below xs v) (lt-ltb x v l) ∙ omega (arith, e)

-- rising lines are split by each place
pub split-rising : (lines : List ℕ) (v : ℕ) → IsStrictlyIncreasing lines → IsSplit lines v (lines_below lines v)
split-rising lines v up =
    let p : ℕ → Bool = λ line. ltb line v in
    let m = prefix_len p lines in
    let s : IsSplit lines v m = record {
      few = prefix_len-le-length p lines;
      before = λ k q. ltb-true _ _ (prefix_len_passes p lines k 0 q);
      after = λ k q r.
          let first : v ≤ get_or lines m 0 = ltb-false _ _ (prefix_len_stops p lines 0 (omega arith)) in
          elim (cases_eq m k) [
            | inl e ↦
                let same : get_or lines m 0 ≡ get_or lines k 0 = ap (λ i. get_or lines i 0) e in
                omega arith
            | inr n ↦ omega (arith, first, rising-pair lines m k up (omega arith) r)
          ];
    } in
    subst (λ (n : ℕ). IsSplit lines v n) (sym (lines_below-split lines v m s)) s

pub lines_below-mono : (lines : List ℕ) (v u : ℕ) → IsStrictlyIncreasing lines → v ≤ u → lines_below lines v ≤ lines_below lines u
lines_below-mono lines v u up l =
    let s = split-rising lines v up in
    let r = split-rising lines u up in
    let m = lines_below lines v in
    let n = lines_below lines u in
    elim (cases_lt n m) [
      | inl p ↦ absurd (omega (arith, s.few, s.before n p, r.after n (omega arith) (omega (arith, s.few))))
      | inr p ↦ p
    ]

-- the same number, of a list and at a place that are known by other names
pub lines_below-read : (xs lines : List ℕ) (n u v : ℕ) → n ≡ lines_below xs u → xs ≡ lines → u ≡ v → n ≡ lines_below lines v
lines_below-read xs lines n u v h e f = h ∙ ap (λ ys. lines_below ys u) e ∙ ap (λ k. lines_below lines k) f

-- where no line is, and where all are
pub lines_below-zero : (lines : List ℕ) → lines_below lines 0 ≡ 0
lines_below-zero lines =
    lines_below-split lines 0 0 (record { few = omega arith; before = λ k p. absurd (omega arith); after = λ k p q. omega arith })

pub lines_below-all : (lines : List ℕ) (v : ℕ) → ((k : ℕ) → k < length lines → get_or lines k 0 < v) → lines_below lines v ≡ length lines
lines_below-all lines v h =
    lines_below-split lines v (length lines) (record { few = omega arith; before = h; after = λ k p q. absurd (omega arith) })

-- right behind a line
pub lines_below-behind : (lines : List ℕ) (k : ℕ) → IsStrictlyIncreasing lines → k < length lines → lines_below lines (get_or lines k 0 + 1) ≡ k + 1
lines_below-behind lines k up p =
    lines_below-split lines (get_or lines k 0 + 1) (k + 1) (record {
      few = omega arith;
      before = λ j q.
          elim (cases_eq j k) [
            | inl e ↦
                let same : get_or lines j 0 ≡ get_or lines k 0 = ap (λ i. get_or lines i 0) e in
                omega arith
            | inr n ↦ omega (arith, rising-pair lines j k up (omega arith) p)
          ];
      after = λ j q r. omega (arith, rising-pair lines k j up (omega arith) r);
    })

-- behind the next line
pub lines_below-next : (lines : List ℕ) (k n : ℕ) → IsStrictlyIncreasing lines → k + 1 < length lines → lines_below lines (get_or lines k 0 + 1 + n) ≤ lines_below lines (get_or lines (k + 1) 0 + 1 + n)
lines_below-next lines k n up p =
    lines_below-mono lines _ _ up (omega (arith, rising-pair lines k (k + 1) up (omega arith) p))

-- the last of rising lines is before the end exactly where all are
pub all-by_last : (lines : List ℕ) (v : ℕ) → IsStrictlyIncreasing lines → get_or lines (length lines - 1) 0 < v → All (λ line. line < v) lines
all-by_last lines v up l k d p =
    let same : get_or lines k d ≡ get_or lines k 0 = get_or_default lines k d 0 p in
    omega (arith, rising-le lines k (length lines - 1) 0 up (omega arith) (omega arith))

-- ---- which line a place is

pub line_at-some : (lines : List ℕ) (v k : ℕ) → IsStrictlyIncreasing lines → k < length lines → get_or lines k 0 ≡ v → line_at lines v ≡ Some k
line_at-some lines v k up p e =
    let here : position_or_len (λ line. line == v) lines ≡ k =
    position_or_len_is (λ line. line == v) lines k 0 (omega arith) (λ j q. ne_eqb (get_or lines j 0) v (λ f. absurd (omega (arith, rising-pair lines j k up q p)))) (λ q. eq-eqb (get_or lines k 0) v e) in
    ap (λ n. cond (ltb n (length lines)) (Some n) None) here ∙ ap (λ b. cond b (Some k) None) (lt-ltb k (length lines) p)

pub line_at-none : (lines : List ℕ) (v : ℕ) → ((k : ℕ) → k < length lines → get_or lines k 0 ≢ v) → line_at lines v ≡ None
line_at-none lines v h =
    let n = length lines in
    let past : position_or_len (λ line. line == v) lines ≡ n =
    position_or_len_is (λ line. line == v) lines n 0 (omega arith) (λ j q. ne_eqb (get_or lines j 0) v (h j q)) (λ q. absurd (omega arith)) in
    let no : ltb n n ≡ false = grind (arith, nat_tests) in
    ap (λ k. cond (ltb k n) (Some k) None) past ∙ ap (λ b. cond b (Some n) None) no

-- a place is the next line, or is none and no more lines stand before the place after it
pub record IsLine (lines : List ℕ) (v : ℕ) : Type 0 where
  pub line : line_at lines v ≡ Some (lines_below lines v)
  pub next : lines_below lines (suc v) ≡ suc (lines_below lines v)

pub record IsNoLine (lines : List ℕ) (v : ℕ) : Type 0 where
  pub line : line_at lines v ≡ None
  pub next : lines_below lines (suc v) ≡ lines_below lines v

pub line-or_not : (lines : List ℕ) (v : ℕ) → IsStrictlyIncreasing lines → IsLine lines v ⊎ IsNoLine lines v
line-or_not lines v up =
    let m = lines_below lines v in
    let s = split-rising lines v up in
    let past : ((k : ℕ) → m ≤ k → k < length lines → v < get_or lines k 0) → IsNoLine lines v = λ h. record {
      line = line_at-none lines v (λ k p e. elim (cases_lt k m) [ inl l ↦ omega (arith, s.before k l) | inr l ↦ omega (arith, h k l p) ]);
      next = lines_below-split lines (suc v) m (record { few = s.few; before = λ k p. omega (arith, s.before k p); after = λ k p q. omega (arith, h k p q) });
    } in
    elim (cases_lt m (length lines)) [
      | inr l ↦ inr (past (λ k p q. absurd (omega arith)))
      | inl l ↦
          elim (cases_eq (get_or lines m 0) v) [
            | inl e ↦ inl (record {
              line = line_at-some lines v m up l e;
              next = lines_below-split lines (suc v) (suc m) (record {
                few = omega arith;
                before = λ k p. elim (cases_eq k m) [
                  | inl f ↦ let same : get_or lines k 0 ≡ get_or lines m 0 = ap (λ i. get_or lines i 0) f in omega arith
                  | inr n ↦ omega (arith, s.before k (omega arith))
                ];
                after = λ k p q. omega (arith, rising-pair lines m k up (omega arith) q);
              });
            })
            | inr n ↦ inr (past (λ k p q. elim (cases_eq k m) [
              | inl f ↦ let same : get_or lines k 0 ≡ get_or lines m 0 = ap (λ i. get_or lines i 0) f in omega (arith, n, s.after k p q)
              | inr d ↦ omega (arith, s.after m (omega arith) l, rising-pair lines m k up (omega arith) q)
            ]))
          ]
    ]

-- ---- what the searches among lines answer

-- each number is below the next, by the tests of all neighbours
pub IsStrictlyIncreasing-tested : (lines : List ℕ) (r : Bool) → IsAllAdjacentAnswer (λ x y b. b ≡ ltb x y) lines r → (r ≡ true → IsStrictlyIncreasing lines) × (IsStrictlyIncreasing lines → r ≡ true)
IsStrictlyIncreasing-tested lines true h = (λ e k p. ltb-true _ _ (sym (h k 0 p)), λ up. refl)
IsStrictlyIncreasing-tested lines false h =
    let no : IsStrictlyIncreasing lines → ⊥ = λ up. omega (arith, up h.0 h.1, ltb-false _ _ (sym (h.2 0))) in
    (λ e. absurd (let bad : false ≡ true → ⊥ = λ d. cc in bad e), λ up. absurd (no up))

-- a line that was found, or the place where it would stand
pub line_at-searched : (lines : List ℕ) (v : ℕ) (r : Result ℕ ℕ) → IsStrictlyIncreasing lines → MatchResult r (λ i. (i < length lines) × (get_or lines i 0 ≡ v)) (λ i. (i ≤ length lines) × ((k : ℕ) → k < i → get_or lines k 0 < v) × ((k : ℕ) → i ≤ k → k < length lines → v < get_or lines k 0)) → result_ok r ≡ line_at lines v
line_at-searched lines v (Ok i) up h = sym (line_at-some lines v i up h.0 h.1)
line_at-searched lines v (Err i) up h =
    sym (line_at-none lines v (λ k p e. elim (cases_lt k i) [ inl l ↦ omega (arith, h.1 k l) | inr l ↦ omega (arith, h.2 k l p) ]))

-- ---- sums over places

-- the sum of what there is at the lines before a place
pub sum-lines_below : (lines : List ℕ) (F : ℕ → ℕ) (v : ℕ) → IsStrictlyIncreasing lines → sum_below v (λ u. on_line (line_at lines u) F) ≡ sum_below (lines_below lines v) F
sum-lines_below lines F zero up = ap (λ n. sum_below n F) (sym (lines_below-zero lines))
sum-lines_below lines F (suc v) up =
    let f : ℕ → ℕ = λ u. on_line (line_at lines u) F in
    let m = lines_below lines v in
    let before : sum_below v f ≡ sum_below m F = sum-lines_below lines F v up in
    elim (line-or_not lines v up) [
      | inl h ↦ ap (λ o. sum_below v f + on_line o F) h.line ∙ ap (λ n. n + F m) before ∙ ap (λ n. sum_below n F) (sym h.next)
      | inr h ↦ ap (λ o. sum_below v f + on_line o F) h.line ∙ omega (arith, before) ∙ ap (λ n. sum_below n F) (sym h.next)
    ]

-- and of what there is at the lines among some places
pub sum-lines_among : (lines : List ℕ) (F : ℕ → ℕ) (v n : ℕ) → IsStrictlyIncreasing lines → sum_below n (λ i. on_line (line_at lines (v + i)) F) ≡ sum_below (lines_among lines v n) (λ i. F (lines_below lines v + i))
sum-lines_among lines F v n up =
    let f : ℕ → ℕ = λ u. on_line (line_at lines u) F in
    let m = lines_below lines v in
    let k = lines_among lines v n in
    let whole : m + k ≡ lines_below lines (v + n) = omega (arith, lines_below-mono lines v (v + n) up (omega arith)) in
    let here : sum_below (v + n) f ≡ sum_below (m + k) F = sum-lines_below lines F (v + n) up ∙ ap (λ j. sum_below j F) (sym whole) in
    omega (arith, here, sum_below-split v n f, sum_below-split m k F, sum-lines_below lines F v up)

pub on_line-same : (o : Option ℕ) (f g : ℕ → ℕ) → ((i : ℕ) → f i ≡ g i) → on_line o f ≡ on_line o g
on_line-same None f g h = refl
on_line-same (Some i) f g h = h i

pub sum-on_line : (o : Option ℕ) (n : ℕ) (f : ℕ → ℕ → ℕ) → sum_below n (λ j. on_line o (λ i. f i j)) ≡ on_line o (λ i. sum_below n (λ j. f i j))
sum-on_line None n f = sum_below-none n (λ j. 0) (λ j p. refl)
sum-on_line (Some i) n f = refl
