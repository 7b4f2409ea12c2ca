-- The ranges of what the text of a choice tells.
use Rattle.std.specs.Prelude.{ℕ, ◌<◌, List, [], ◌∷◌, map, IfSome}
use Rattle.std.specs.Int.{IsInRange}
use Rattle.std.specs.List.{AllByRecursion}
use Rattle.pallet_choice.specs.declared.choices.Score.{Score}
use Rattle.pallet_choice.specs.Text.{TailValue}

-- an entry's number from 1 to 256, and its count or its bound from 1 to 1,000
abbrev pub IsTold : ℕ × ℕ → Type 0
IsTold entry = IsInRange 1 256 entry.0 × IsInRange 1 1000 entry.1

-- each number is above the one before it, and the first above this one
abbrev pub RisesFrom : ℕ → List ℕ → Type 0
RisesFrom low [] = Unit {0}
RisesFrom low (n ∷ ns) = (low < n) × RisesFrom n ns

-- what has a text that is read: all is within its range, and the rivals' numbers rise
pub record IsTail (tail : TailValue) : Type 0 where
  pub chosen : IfSome tail.chosen IsTold
  pub rivals : AllByRecursion IsTold tail.rivals
  pub rise : RisesFrom 0 (map (λ r. r.0) tail.rivals)

-- an entry within these ranges
pub record IsScore (score : Score) : Type 0 where
  pub number : IsInRange 1 256 score.number
  pub count : IsInRange 1 1000 score.count
  pub bound : IsInRange 1 1000 score.bound
