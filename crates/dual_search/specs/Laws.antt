-- What is said of games.
use Rattle.std.specs.Prelude.{◌≡◌, ℕ, Option}
use Rattle.plan_geometry.specs.declared.instances.Inst.{Inst}
use Rattle.weightings.specs.Table.{CellTable}
use Rattle.dual_search.specs.Dual.{IsDual}

-- the best table of a game of so many rounds is one
abbrev pub DualIsOne : Type 0
DualIsOne = (I : Inst) (rounds : ℕ) (a b : Option CellTable) → IsDual I rounds a → IsDual I rounds b → a ≡ b
