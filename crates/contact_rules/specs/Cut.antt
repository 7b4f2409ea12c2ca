use Rattle.std.specs.Prelude.{◌≡◌, ℕ, ◌+◌, ◌<◌, ◌≤◌, ◌⊎◌, List, All, Any}
use Rattle.plan_geometry.specs.declared.spots.Axis.{Axis}
use Rattle.plan_geometry.specs.declared.spots.Spot.{Spot}
use Rattle.plan_geometry.specs.declared.instances.Inst.{Inst}
use Rattle.plan_geometry.specs.Layout.{start}
use Rattle.contact_rules.specs.Real.{other, real_side, real_finish}

-- of each case of either layer, and of some case of either layer
abbrev pub EachCase : (Spot → Type 0) → List Spot → List Spot → Type 0
EachCase P lower upper = All P lower × All P upper

abbrev pub SomeCase : (Spot → Type 0) → List Spot → List Spot → Type 0
SomeCase P lower upper = Any P lower ⊎ Any P upper

-- A line across an axis, between the pallet's edges, counts where some case ends at or before it and
-- some case begins at or after it.
pub record Counts (a : Axis) (I : Inst) (gap : ℕ) (lower upper : List Spot) (line : ℕ) : Type 0 where
  pub positive : 0 < line
  pub within : line < real_side a I gap
  pub some_before : SomeCase (λ s. real_finish a I gap s ≤ line) lower upper
  pub some_after : SomeCase (λ s. line ≤ start a s) lower upper

-- the case covers the row, begins before the line and ends after it
pub record Crosses (a : Axis) (I : Inst) (gap : ℕ) (line row : ℕ) (s : Spot) : Type 0 where
  pub row_from : start (other a) s ≤ row
  pub row_to : row < real_finish (other a) I gap s
  pub begins_before : start a s < line
  pub ends_after : line < real_finish a I gap s

-- n consecutive rows from a row on, none of which is crossed at the line
pub record IsRun (a : Axis) (I : Inst) (gap : ℕ) (lower upper : List Spot) (line row n : ℕ) : Type 0 where
  pub within : row + n ≤ real_side (other a) I gap
  pub uncrossed : (k : ℕ) → row ≤ k → k < row + n → EachCase (λ s. ¬ Crosses a I gap line k s) lower upper

-- a run of n rows at a line that counts
pub record SomeRun (a : Axis) (I : Inst) (gap : ℕ) (lower upper : List Spot) (n : ℕ) : Type 0 where
  pub line : ℕ
  pub row : ℕ
  pub counts : Counts a I gap lower upper line
  pub run : IsRun a I gap lower upper line row n

-- the greatest run at a line that counts, 0 where no line counts
pub record IsGreatestRun (a : Axis) (I : Inst) (gap : ℕ) (lower upper : List Spot) (n : ℕ) : Type 0 where
  pub bound : (line row m : ℕ) → Counts a I gap lower upper line → IsRun a I gap lower upper line row m → m ≤ n
  pub reached : (n ≡ 0) ⊎ SomeRun a I gap lower upper n
