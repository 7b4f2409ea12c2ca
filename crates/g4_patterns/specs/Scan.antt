-- What the scan of one block has covered. For fixed x cuts the sum of a cut is a first term, of its first y cut,
-- and a second term, of its second.
use Rattle.std.specs.Prelude.{ℕ, ◌+◌, ◌≤◌, ◌<◌, ◌≡◌, length, slice_index}
use Rattle.block_tables.specs.declared.patterns.Pattern.TheVariants.{Four}
use Rattle.block_tables.specs.declared.tables.Best.{Best}
use Rattle.block_tables.specs.declared.tables.Job.{Job}
use Rattle.block_tables.specs.Tables.{first_term, second_term, IsReached}
use Rattle.g4_patterns.specs.declared.scanning.Top.{Top}

-- the first term of the j-th y cut, and the second term of the k-th
abbrev pub first_at : Job → ℕ → ℕ → ℕ → ℕ
first_at q x1 x2 j = first_term q x1 x2 (slice_index q.ys.now j)

abbrev pub second_at : Job → ℕ → ℕ → ℕ → ℕ
second_at q x1 x2 k = second_term q x1 x2 (slice_index q.ys.now k)

-- the greatest of the first terms up to a place, and where it stands
pub record IsTop (q : Job) (x1 x2 upto : ℕ) (t : Top) : Type 0 where
  pub up : (j : ℕ) → j < upto → first_at q x1 x2 j ≤ t.value
  pub at : 0 < upto → (t.at < upto) × (first_at q x1 x2 t.at ≡ t.value)
  pub none : upto ≡ 0 → (t.value ≡ 0) × (t.at ≡ 0)
  pub small : t.value ≤ 32000000

abbrev pub Reached : Job → Best → Type 0
Reached q m = IsReached Four q m

-- no cut with these x cuts, and its second y cut out of the first `upto`, has a greater sum
abbrev pub CoversY : Job → ℕ → ℕ → ℕ → ℕ → Type 0
CoversY q x1 x2 upto n = (j k : ℕ) → j ≤ k → k < upto → first_at q x1 x2 j + second_at q x1 x2 k ≤ n

abbrev pub CoversX2 : Job → ℕ → ℕ → ℕ → Type 0
CoversX2 q x1 upto n = (k : ℕ) → k < upto → x1 ≤ slice_index q.xs.now k → CoversY q x1 (slice_index q.xs.now k) (length q.ys.now) n

abbrev pub CoversX1 : Job → ℕ → ℕ → Type 0
CoversX1 q upto n = (k : ℕ) → k < upto → CoversX2 q (slice_index q.xs.now k) (length q.xs.now) n
