-- A game of best answers. In each round the first lightest position is covered once more, and then the first of the
-- cells that are covered most weighs one more.
use Rattle.std.specs.Prelude.{◌≡◌, ℕ, ◌+◌, ◌*◌, List, [], ◌∷◌, replicate, slice_index, slice_set}
use Rattle.plan_geometry.specs.declared.spots.Spot.{Spot}
use Rattle.plan_geometry.specs.declared.instances.Inst.{Inst}
use Rattle.plan_geometry.specs.Layout.{Covers}
use Rattle.weightings.specs.Table.{cell_in}
use Rattle.dual_search.specs.Raising.{Raises, IsFirstGreatestPlace}
use Rattle.dual_search.specs.Positions.{IsFirstLightest}

-- what stands between rounds, of each cell by y, then x: how often it was covered, and what it weighs
pub record Stage : Type 0 where
  pub covers : List ℕ
  pub weights : List ℕ

-- what the cells weigh at a stage
abbrev pub weights_at : Inst → Stage → ℕ → ℕ → ℕ
weights_at I s x y = cell_in I.l_side s.weights x y

-- no cell is covered, and none weighs anything
pub record IsStart (I : Inst) (s : Stage) : Type 0 where
  pub covers : s.covers ≡ replicate (I.l_side * I.w_side) 0
  pub weights : s.weights ≡ replicate (I.l_side * I.w_side) 0

-- one round
pub record IsRound (I : Inst) (old new : Stage) : Type 0 where
  pub spot : Spot
  pub lightest : IsFirstLightest I (weights_at I old) spot
  pub covered : Raises I.l_side (Covers I spot) old.covers new.covers
  pub cell : ℕ
  pub most_covered : IsFirstGreatestPlace new.covers cell
  pub raised : new.weights ≡ slice_set old.weights cell (slice_index old.weights cell + 1)

-- the stages of a game from its start on, the newest first
abbrev pub IsGame : Inst → List Stage → Type 0
IsGame I [] = ⊥
IsGame I (s ∷ []) = IsStart I s
IsGame I (s ∷ r ∷ rest) = IsRound I r s × IsGame I (r ∷ rest)
