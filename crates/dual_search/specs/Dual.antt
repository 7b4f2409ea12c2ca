-- The best table that a game comes to.
use Rattle.std.specs.Prelude.{◌≡◌, ℕ, ◌+◌, ◌<◌, ◌≤◌, All, List, ◌∷◌, ◌++◌, length, Option, MatchOption, ⊤}
use Rattle.plan_geometry.specs.declared.instances.Inst.{Inst}
use Rattle.weightings.specs.Table.{CellTable, IsTable}
use Rattle.weightings.specs.Weighting.{IsLeastWeight, IsWeightBound}
use Rattle.dual_search.specs.declared.duals.Best.{Best}
use Rattle.dual_search.specs.Rounds.{Stage, weights_at, IsGame}

-- the weights of a stage as a table
abbrev pub table_at : Inst → Stage → CellTable
table_at I s = record { x_side = I.l_side; y_side = I.w_side; cells = s.weights }

-- some case weighs nothing, so that the weights give no bound
abbrev pub HasNoBound : Inst → Stage → Type 0
HasNoBound I s = IsLeastWeight I (weights_at I s) 0

-- the bound of the weights of a stage, if there is one, is at least n
abbrev pub IsNoBetter : Inst → ℕ → Stage → Type 0
IsNoBetter I n s = (m : ℕ) → IsWeightBound I (weights_at I s) m → n ≤ m

-- it is above n
abbrev pub IsWorse : Inst → ℕ → Stage → Type 0
IsWorse I n s = (m : ℕ) → IsWeightBound I (weights_at I s) m → n < m

-- of the stages of a game, with the newest first, the earliest of those whose weights give the least bound
pub record IsEarliestBest (I : Inst) (stages : List Stage) (best : Stage) (bound : ℕ) : Type 0 where
  pub later : List Stage
  pub earlier : List Stage
  pub stands : stages ≡ later ++ best ∷ earlier
  pub is_bound : IsWeightBound I (weights_at I best) bound
  pub no_better : All (IsNoBetter I bound) later
  pub worse : All (IsWorse I bound) earlier

-- the table is that of the earliest best stage
pub record IsBestTable (I : Inst) (stages : List Stage) (t : CellTable) : Type 0 where
  pub stage : Stage
  pub bound : ℕ
  pub best : IsEarliestBest I stages stage bound
  pub is : t ≡ table_at I stage

-- the best table of a game of so many rounds, or nothing where no stage gives a bound
pub record IsDual (I : Inst) (rounds : ℕ) (answer : Option CellTable) : Type 0 where
  pub stages : List Stage
  pub game : IsGame I stages
  pub count : length stages ≡ rounds + 1
  pub best : MatchOption answer (All (HasNoBound I) stages) (λ t. IsBestTable I stages t)

-- of the stages of a game the best so far, with its bound and its weights
abbrev pub IsBestSoFar : Inst → List Stage → Option Best → Type 0
IsBestSoFar I stages best =
    MatchOption best (All (HasNoBound I) stages)
    (λ b. (s : Stage) × IsEarliestBest I stages s b.bound × (b.cells.items ≡ s.weights))

-- its weights are those of a table
abbrev pub HoldsTable : Inst → Option Best → Type 0
HoldsTable I best = MatchOption best ⊤ (λ b. IsTable I.l_side I.w_side b.cells.items)

-- so many rounds were played, and this is the best of their stages
pub record IsPlayed (I : Inst) (rounds : ℕ) (best : Option Best) : Type 0 where
  pub stages : List Stage
  pub game : IsGame I stages
  pub count : length stages ≡ rounds + 1
  pub is_best : IsBestSoFar I stages best
  pub table : HoldsTable I best
