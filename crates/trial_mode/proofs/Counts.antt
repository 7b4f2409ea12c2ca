-- Counting one entry more.
use Rattle.std.proofs.Common.{ℕ, ◌+◌, ◌*◌, ◌≤◌, ◌≡◌, Bool, List, [], ◌∷◌, ◌++◌, length, cond, add-zero, arith, ap, refl}
use Rattle.std.specs.List.{count_by, sum_by}
use Rattle.std.proofs.lemmas.List.{length-append}
use Rattle.std.proofs.lemmas.List.Sums.{count_by-le-length, sum_by-append}
use Rattle.order_reader.specs.declared.rows.Row.{Row}
use Rattle.plan_entries.specs.declared.entries.Entry.{Entry}
use Rattle.report_checker.specs.declared.verdicts.Verdict.{Verdict}
use Rattle.report_checker.specs.Verdicts.{IsVerdict}
use Rattle.made_orders.specs.declared.summaries.Summary.{Summary}
use Rattle.plan_mode.specs.Entries.{IsEntryOf}
use Rattle.trial_mode.specs.Trials.{Tried, AreTriedFrom, is_planned, cases_of, is_optimal, is_stacked, is_yes, summary_of, IsCounted}

count_more : {X : Type 0} (p : X → Bool) (xs : List X) (x : X) → count_by p (xs ++ x ∷ []) ≡ count_by p xs + cond (p x) 1 0
count_more p xs x = omega (arith, sum_by-append (λ y. cond (p y) 1 0) xs (x ∷ []))

pub sum_more : {X : Type 0} (f : X → ℕ) (xs : List X) (x : X) → sum_by f (xs ++ x ∷ []) ≡ sum_by f xs + f x
sum_more f xs x = omega (arith, sum_by-append f xs (x ∷ []))

-- the summary with one entry more
pub one_more : (s : Summary) (ts : List Tried) (e : Entry) (v : Verdict) → s ≡ summary_of s.number ts
    → record { number = s.number; rows = s.rows + 1; planned = s.planned + cond (is_planned e) 1 0; cases = s.cases + cases_of e; optimal = s.optimal + cond (is_optimal e) 1 0; stacks = s.stacks + cond (is_stacked e) 1 0; yes = s.yes + cond (is_yes v) 1 0 }
    ≡ summary_of s.number (ts ++ (e, v) ∷ [])
one_more s ts e v is =
    rw (length-append ts ((e, v) ∷ []), count_more (λ (t : Tried). is_planned t.0) ts (e, v), sum_more (λ (t : Tried). cases_of t.0) ts (e, v), count_more (λ (t : Tried). is_optimal t.0) ts (e, v), count_more (λ (t : Tried). is_stacked t.0) ts (e, v), count_more (λ (t : Tried). is_yes t.1) ts (e, v))
    (ap (λ (z : Summary). record { number = s.number; rows = z.rows + 1; planned = z.planned + cond (is_planned e) 1 0; cases = z.cases + cases_of e; optimal = z.optimal + cond (is_optimal e) 1 0; stacks = z.stacks + cond (is_stacked e) 1 0; yes = z.yes + cond (is_yes v) 1 0 }) is)

-- no more is counted than there are rows
pub counted : (s : Summary) (ts : List Tried) → length ts ≤ 16 → s ≡ summary_of s.number ts → s.cases ≤ s.rows * 1000 → IsCounted s 16
counted s ts few is cases = record {
  rows = omega (arith, few, ap (λ (z : Summary). z.rows) is);
  planned = omega (arith, count_by-le-length (λ (t : Tried). is_planned t.0) ts, ap (λ (z : Summary). z.rows) is, ap (λ (z : Summary). z.planned) is);
  cases = cases;
  optimal = omega (arith, count_by-le-length (λ (t : Tried). is_optimal t.0) ts, ap (λ (z : Summary). z.rows) is, ap (λ (z : Summary). z.optimal) is);
  stacks = omega (arith, count_by-le-length (λ (t : Tried). is_stacked t.0) ts, ap (λ (z : Summary). z.rows) is, ap (λ (z : Summary). z.stacks) is);
  yes = omega (arith, count_by-le-length (λ (t : Tried). is_yes t.1) ts, ap (λ (z : Summary). z.rows) is, ap (λ (z : Summary). z.yes) is);
}

-- there are as many entries as rows
pub as_many : (n : ℕ) (rs : List Row) (ts : List Tried) → AreTriedFrom n rs ts → length ts ≡ length rs
as_many n [] [] are = refl
as_many n [] (t ∷ ts) are = absurd are
as_many n (r ∷ rs) [] are = absurd are
as_many n (r ∷ rs) (t ∷ ts) are = omega (arith, as_many (n + 1) rs ts are.2)

-- one more row has one more entry
pub tried_more : (n : ℕ) (rs : List Row) (ts : List Tried) (r : Row) (e : Entry) (v : Verdict) → AreTriedFrom n rs ts → IsEntryOf (n + length rs) r e → IsVerdict e v → AreTriedFrom n (rs ++ r ∷ []) (ts ++ (e, v) ∷ [])
tried_more n [] [] r e v so_far more right = (rw (add-zero n) at more, right, tt)
tried_more n [] (u ∷ ts) r e v so_far more right = absurd so_far
tried_more n (q ∷ rs) [] r e v so_far more right = absurd so_far
tried_more n (q ∷ rs) (u ∷ ts) r e v so_far more right =
    let shift : n + 1 + length rs ≡ n + length (q ∷ rs) = omega arith in
    (so_far.0, so_far.1, tried_more (n + 1) rs ts r e v so_far.2 (rw shift more) right)
