-- What the scan of one block has covered.
use Rattle.std.specs.Prelude.{ℕ, ◌≤◌, ◌<◌, ◌≡◌, List, length, slice_index}
use Rattle.block_tables.specs.declared.patterns.Pattern.TheVariants.{Five}
use Rattle.block_tables.specs.declared.tables.Best.{Best}
use Rattle.block_tables.specs.declared.tables.Job.{Job}
use Rattle.block_tables.specs.Tables.{second_term, sum_at, IsReached}

-- the second terms of each y cut
pub record AreSecondTerms (q : Job) (x1 x2 : ℕ) (terms : List ℕ) : Type 0 where
  pub same : length terms ≡ length q.ys.now
  pub each : (k : ℕ) → k < length terms → slice_index terms k ≡ second_term q x1 x2 (slice_index q.ys.now k)
  pub small : (k : ℕ) → k < length terms → slice_index terms k ≤ 32000000

abbrev pub Reached : Job → Best → Type 0
Reached q m = IsReached Five q m

-- no cut with these first numbers, and the next one out of the first `upto` of its list, has a greater sum
abbrev pub CoversY2 : Job → ℕ → ℕ → ℕ → ℕ → ℕ → Type 0
CoversY2 q x1 x2 y1 upto n = (k : ℕ) → k < upto → y1 ≤ slice_index q.ys.now k → sum_at Five q x1 x2 y1 (slice_index q.ys.now k) ≤ n

abbrev pub CoversY1 : Job → ℕ → ℕ → ℕ → ℕ → Type 0
CoversY1 q x1 x2 upto n = (k : ℕ) → k < upto → CoversY2 q x1 x2 (slice_index q.ys.now k) (length q.ys.now) n

abbrev pub CoversX2 : Job → ℕ → ℕ → ℕ → Type 0
CoversX2 q x1 upto n = (k : ℕ) → k < upto → x1 ≤ slice_index q.xs.now k → CoversY1 q x1 (slice_index q.xs.now k) (length q.ys.now) n

abbrev pub CoversX1 : Job → ℕ → ℕ → Type 0
CoversX1 q upto n = (k : ℕ) → k < upto → CoversX2 q (slice_index q.xs.now k) (length q.xs.now) n
