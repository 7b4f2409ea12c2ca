-- Which entry covers most, and which may cover more than it does.
use Rattle.std.specs.Prelude.{◌≡◌, ◌<◌, ◌≤◌, nat_lt, List, [], ◌∷◌, ◌++◌, filter, Option, Some, None}
use Rattle.std.specs.List.{AllByRecursion}
use Rattle.pallet_choice.specs.declared.choices.Score.{Score}
use Rattle.case_design.specs.declared.best.Cover.{Cover}

-- The first entry that covers most: each entry before it covers less, and none behind it covers more.
pub record IsFirstOfMost (covers : List Cover) (most : Cover) : Type 0 where
  pub before : List Cover
  pub after : List Cover
  pub parts : covers ≡ before ++ most ∷ after
  pub less : AllByRecursion (λ c. c.covers < most.covers) before
  pub no_more : AllByRecursion (λ c. c.covers ≤ most.covers) after

-- it is the best, and there is none exactly where there are no entries; its rivals are the entries that may cover more
-- than it does, itself included, in their order
abbrev pub IsBest : List Cover → Option Cover → List Cover → Type 0
IsBest covers None rivals = (covers ≡ []) × (rivals ≡ [])
IsBest covers (Some best) rivals = IsFirstOfMost covers best × (rivals ≡ filter (λ c. nat_lt best.covers c.may) covers)

-- an entry to be chosen by its cells in place of its cases, and back
abbrev pub score_by : Cover → Score
score_by c = record { number = c.number; count = c.covers; bound = c.may }

abbrev pub cover_by : Score → Cover
cover_by s = record { number = s.number; covers = s.count; may = s.bound }
