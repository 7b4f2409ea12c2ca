-- Which planned entry is chosen, and which could hold more than it does.
use Rattle.std.specs.Prelude.{◌≡◌, ℕ, ◌<◌, ◌≤◌, nat_lt, List, [], ◌∷◌, ◌++◌, filter, Option, Some, None}
use Rattle.std.specs.List.{AllByRecursion}
use Rattle.pallet_choice.specs.declared.choices.Score.{Score}

-- The first entry of the greatest count: each entry before it holds fewer cases, and none after it holds more.
pub record IsFirstOfMost (scores : List Score) (most : Score) : Type 0 where
  pub before : List Score
  pub after : List Score
  pub parts : scores ≡ before ++ most ∷ after
  pub fewer : AllByRecursion (λ s. s.count < most.count) before
  pub no_more : AllByRecursion (λ s. s.count ≤ most.count) after

-- it is chosen, and none exactly where there are no entries
abbrev pub IsChosen : List Score → Option Score → Type 0
IsChosen scores None = scores ≡ []
IsChosen scores (Some chosen) = IsFirstOfMost scores chosen

-- the entries whose bound is above a count, in their order
abbrev pub entries_above : ℕ → List Score → List Score
entries_above count scores = filter (λ s. nat_lt count s.bound) scores

-- those whose bound is above the count of the chosen entry
abbrev pub AreRivals : List Score → Option Score → List Score → Type 0
AreRivals scores None rivals = rivals ≡ []
AreRivals scores (Some chosen) rivals = rivals ≡ entries_above chosen.count scores

pub record IsChoice (scores : List Score) (chosen : Option Score) (rivals : List Score) : Type 0 where
  pub is_chosen : IsChosen scores chosen
  pub are_rivals : AreRivals scores chosen rivals

-- two choices among the same entries are the same
abbrev pub ChoicesAreOne : Type 0
ChoicesAreOne =
    (scores : List Score) (c d : Option Score) (rivals others : List Score) → IsChoice scores c rivals → IsChoice scores d others → (c ≡ d) × (rivals ≡ others)
