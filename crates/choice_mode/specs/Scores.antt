-- What a choice needs to know of the entries.
use Rattle.std.specs.Prelude.{List, Option, Some, None, filter_map}
use Rattle.pallet_choice.specs.declared.choices.Score.{Score}
use Rattle.plan_entries.specs.declared.entries.Plan.{Plan}
use Rattle.plan_entries.specs.declared.entries.Entry.{Entry}
use Rattle.plan_entries.specs.declared.entries.Entry.TheVariants.{Planned, Refused}

-- the number, the count and the bound of a plan
abbrev pub score_of : Plan → Score
score_of p = record { number = p.number; count = p.count; bound = p.bound }

-- an entry of a refused row has none
abbrev pub score_in : Entry → Option Score
score_in (Planned p) = Some (score_of p)
score_in (Refused n fault) = None

-- those of the planned entries, in order
abbrev pub scores_of : List Entry → List Score
scores_of entries = filter_map score_in entries
