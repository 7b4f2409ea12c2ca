-- How many entries of each kind a report has.
use Rattle.std.specs.Prelude.{Bool, true, false, List, length, count_by}
use Rattle.plan_entries.specs.declared.entries.Status.{Status}
use Rattle.plan_entries.specs.declared.entries.Status.TheVariants.{Optimal, StillOpen}
use Rattle.plan_entries.specs.declared.entries.Entry.{Entry}
use Rattle.plan_entries.specs.declared.entries.Entry.TheVariants.{Planned, Refused}
use Rattle.plan_entries.specs.Entries.{is_refused}
use Rattle.stack_builder.specs.declared.lists.StackAnswer.{StackAnswer}
use Rattle.stack_builder.specs.declared.lists.StackAnswer.TheVariants.{Stack, Unmet}
use Rattle.page_text.specs.declared.counts.Counts.{Counts}

abbrev pub is_planned : Entry → Bool
is_planned (Planned p) = true
is_planned (Refused number fault) = false

abbrev pub is_optimal : Status → Bool
is_optimal Optimal = true
is_optimal StillOpen = false

abbrev pub is_still_open : Status → Bool
is_still_open Optimal = false
is_still_open StillOpen = true

abbrev pub is_unmet_answer : StackAnswer → Bool
is_unmet_answer (Stack numbers) = false
is_unmet_answer (Unmet rules) = true

-- a plan whose layer is proved the greatest
abbrev pub is_greatest : Entry → Bool
is_greatest (Planned p) = is_optimal p.status
is_greatest (Refused number fault) = false

-- a plan of which it is open whether a layer can have more cases
abbrev pub is_open : Entry → Bool
is_open (Planned p) = is_still_open p.status
is_open (Refused number fault) = false

-- a plan that has no stack, since the rules that the order asks for are unmet
abbrev pub is_unmet : Entry → Bool
is_unmet (Planned p) = is_unmet_answer p.stack
is_unmet (Refused number fault) = false

abbrev pub counts_of : List Entry → Counts
counts_of es = record {
  orders = length es;
  planned = count_by is_planned es;
  greatest = count_by is_greatest es;
  still_open = count_by is_open es;
  unmet = count_by is_unmet es;
  refused = count_by is_refused es;
}
