-- What a search of tables on lines has found.
use Rattle.std.specs.Prelude.{◌≡◌, ℕ, ◌*◌, ◌<◌, ◌≤◌, ◌⊎◌, List, length, Option, Some, IfSome}
use Rattle.plan_geometry.specs.declared.instances.Inst.{Inst}
use Rattle.plan_geometry.specs.Layout.{IsBounded}
use Rattle.line_tables.specs.Lines.{Lines, half, weight_at, BelongsTo}
use Rattle.line_tables.specs.Least.{IsTotalByLeast}
use Rattle.plan_geometry.specs.declared.spots.Axis.TheVariants.{X, Y}
use Rattle.raster_points.specs.Places.{Lists}
use Rattle.line_search.specs.Lines.{IsLine}
use Rattle.line_search.specs.declared.search.Bounding.{Bounding}

-- What a search is seen as: the instance, the best table so far with its bound, the table of the repaired weights of
-- least total, how many turns were made, and how many it makes at the most.
pub record Found : Type 0 where
  pub inst : Inst
  pub best : Option Bounding
  pub lightest : Option Lines
  pub turns : ℕ
  pub limit : ℕ

-- the table is one of the instance, and this is its bound, which no layout exceeds
pub record IsBounding (I : Inst) (b : Bounding) : Type 0 where
  pub belongs : BelongsTo b.table I
  pub is_bound : IsTotalByLeast I (weight_at b.table) b.bound
  pub bounds : IsBounded I b.bound

-- the best table bounds the cases by at most the target
pub record Closes (found : Found) (target : ℕ) : Type 0 where
  pub best : Bounding
  pub found_best : found.best ≡ Some best
  pub reached : best.bound ≤ target

-- a best table with a lesser bound than the one before and than the known one
pub record IsLesser (known : ℕ) (before after : Option Bounding) : Type 0 where
  pub best : Bounding
  pub is_best : after ≡ Some best
  pub below_known : best.bound < known
  pub below_before : IfSome before (λ b. best.bound < b.bound)

-- the best table is the one before, or one with a lesser bound
abbrev pub IsImproved : ℕ → Option Bounding → Option Bounding → Type 0
IsImproved known before after = (after ≡ before) ⊎ IsLesser known before after

-- there are lines along both axes, and at most 40,000 of their crossings in a quarter
pub record HasFewLines (I : Inst) : Type 0 where
  pub columns : List ℕ
  pub rows : List ℕ
  pub are_columns : Lists (IsLine X I) columns
  pub are_rows : Lists (IsLine Y I) rows
  pub columns_some : 1 ≤ length columns
  pub rows_some : 1 ≤ length rows
  pub few : half (length columns) * half (length rows) ≤ 40000
