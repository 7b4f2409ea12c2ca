-- What `check_choice_text` and the entries of a choice's text answer.
use Rattle.std.specs.Prelude.{◌≡◌, List, [], ◌∷◌, Option, Some, None, Result, Ok, Err}
use Rattle.plan_memory.specs.declared.Memory.{Memory}
use Rattle.plan_entries.specs.declared.entries.Entry.{Entry}
use Rattle.pallet_choice.specs.Text.{tail_value}
use Rattle.report_text.specs.declared.reports.ReportFault.{ReportFault}
use Rattle.report_text.specs.declared.reports.ReportFault.TheVariants as faults
use Rattle.choice_text.specs.Text.{ChoiceFile}
use Rattle.choice_text.specs.declared.choices.ChoiceText.{ChoiceText}

-- what the text that was read tells
abbrev pub file_in : ChoiceText → ChoiceFile
file_in choice = record { entries = choice.entries; tail = tail_value choice.tail }

-- this choice, unless memory was refused
abbrev pub GivesChoice : ChoiceFile → Result ChoiceText ReportFault → Type 0
GivesChoice f (Ok choice) = file_in choice ≡ f
GivesChoice f (Err faults.Memory) = Unit {0}
GivesChoice f (Err (faults.Line k)) = ⊥

-- the first entry, which then is no more among those that are left; without memory nothing is changed
abbrev pub YieldsEntry : List Entry → List Entry → Result (Option Entry) Memory → Type 0
YieldsEntry old new (Ok (Some e)) = old ≡ e ∷ new
YieldsEntry old new (Ok None) = (old ≡ []) × (new ≡ old)
YieldsEntry old new (Err m) = new ≡ old
