-- What comes of a trial: the made orders of a number are planned and judged, and what comes of them is counted.
use Rattle.std.specs.Prelude.{ℕ, ◌+◌, ◌*◌, ◌≤◌, ◌≡◌, ⊤, Bool, true, false, List, [], ◌∷◌, length}
use Rattle.std.specs.List.{count_by, sum_by}
use Rattle.order_reader.specs.declared.rows.Row.{Row}
use Rattle.stack_builder.specs.declared.lists.StackAnswer.{StackAnswer}
use Rattle.stack_builder.specs.declared.lists.StackAnswer.TheVariants.{Stack, Unmet}
use Rattle.plan_entries.specs.declared.entries.Status.{Status}
use Rattle.plan_entries.specs.declared.entries.Status.TheVariants.{Optimal, StillOpen}
use Rattle.plan_entries.specs.declared.entries.Entry.{Entry}
use Rattle.plan_entries.specs.declared.entries.Entry.TheVariants as entries
use Rattle.report_checker.specs.declared.verdicts.Verdict.{Verdict}
use Rattle.report_checker.specs.declared.verdicts.Verdict.TheVariants as verdicts
use Rattle.report_checker.specs.Verdicts.{IsVerdict}
use Rattle.made_orders.specs.declared.summaries.Summary.{Summary}
use Rattle.made_orders.specs.Made.{made_rows_of}
use Rattle.plan_mode.specs.Entries.{IsEntryOf}

-- an entry, and a verdict on it
abbrev pub Tried : Type 0
Tried = Entry × Verdict

-- each row's entry, numbered from n, with the right verdict on it
abbrev pub AreTriedFrom : ℕ → List Row → List Tried → Type 0
AreTriedFrom n [] [] = ⊤
AreTriedFrom n [] (t ∷ ts) = ⊥
AreTriedFrom n (r ∷ rs) [] = ⊥
AreTriedFrom n (r ∷ rs) (t ∷ ts) = IsEntryOf n r t.0 × IsVerdict t.0 t.1 × AreTriedFrom (n + 1) rs ts

-- ---- what is counted

abbrev pub is_planned : Entry → Bool
is_planned (entries.Planned p) = true
is_planned (entries.Refused n fault) = false

abbrev pub cases_of : Entry → ℕ
cases_of (entries.Planned p) = p.count
cases_of (entries.Refused n fault) = 0

abbrev pub says_optimal : Status → Bool
says_optimal Optimal = true
says_optimal StillOpen = false

abbrev pub is_optimal : Entry → Bool
is_optimal (entries.Planned p) = says_optimal p.status
is_optimal (entries.Refused n fault) = false

abbrev pub has_stack : StackAnswer → Bool
has_stack (Stack numbers) = true
has_stack (Unmet unmet) = false

abbrev pub is_stacked : Entry → Bool
is_stacked (entries.Planned p) = has_stack p.stack
is_stacked (entries.Refused n fault) = false

abbrev pub is_yes : Verdict → Bool
is_yes verdicts.Yes = true
is_yes verdicts.Refused = false
is_yes (verdicts.No clause item) = false

-- the number that was tried, and of its rows: how many there are, how many were planned, with how many cases
-- together, how many are optimal and how many have a stack, and on how many the verdict is yes
abbrev pub summary_of : ℕ → List Tried → Summary
summary_of number tried = record {
  number = number;
  rows = length tried;
  planned = count_by (λ t. is_planned t.0) tried;
  cases = sum_by (λ t. cases_of t.0) tried;
  optimal = count_by (λ t. is_optimal t.0) tried;
  stacks = count_by (λ t. is_stacked t.0) tried;
  yes = count_by (λ t. is_yes t.1) tried;
}

-- no more is counted than there are rows, of which there are at most so many, each with at most 1,000 cases
pub record IsCounted (s : Summary) (most : ℕ) : Type 0 where
  pub rows : s.rows ≤ most
  pub planned : s.planned ≤ s.rows
  pub cases : s.cases ≤ s.rows * 1000
  pub optimal : s.optimal ≤ s.rows
  pub stacks : s.stacks ≤ s.rows
  pub yes : s.yes ≤ s.rows

-- ---- the whole trial

-- what came of the made orders of a number: each of the sixteen was planned, and judged with a yes
pub record IsTrialOf (number : ℕ) (tried : List Tried) : Type 0 where
  pub are_tried : AreTriedFrom 1 (made_rows_of number) tried
  pub rows : length tried ≡ 16
  pub planned : count_by (λ t. is_planned t.0) tried ≡ 16
  pub yes : count_by (λ t. is_yes t.1) tried ≡ 16
