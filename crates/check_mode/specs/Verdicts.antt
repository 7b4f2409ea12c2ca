-- The verdicts of the entries of a report, and the lines that tell them.
use Rattle.std.specs.Prelude.{ℕ, Bool, true, false, List, [], ◌∷◌, ◌++◌, length, take}
use Rattle.std.specs.List.{list_any}
use Rattle.plan_entries.specs.declared.entries.Entry.{Entry}
use Rattle.plan_entries.specs.Entries.{number_of_entry}
use Rattle.report_text.specs.Reports.{done_text}
use Rattle.report_checker.specs.declared.verdicts.Verdict.{Verdict}
use Rattle.report_checker.specs.declared.verdicts.Verdict.TheVariants.{Yes, Refused, No}
use Rattle.report_checker.specs.Text.{verdict_text}
use Rattle.par_judge.specs.Judged.{AreVerdicts}

-- the right verdicts of the first entries
abbrev pub AreFirstVerdicts : List Entry → List Verdict → Type 0
AreFirstVerdicts entries verdicts = AreVerdicts (take (length verdicts) entries) verdicts

abbrev pub is_no : Verdict → Bool
is_no Yes = false
is_no Refused = false
is_no (No clause item) = true

abbrev pub any_no : List Verdict → Bool
any_no = list_any is_no

-- the line of a verdict, which bears its entry's number
unfoldable pub line_of : Entry → Verdict → List ℕ
line_of e v = verdict_text (number_of_entry e) v

-- the lines of the verdicts of the first entries
abbrev pub verdict_lines : List Entry → List Verdict → List ℕ
verdict_lines es [] = []
verdict_lines [] (v ∷ vs) = []
verdict_lines (e ∷ es) (v ∷ vs) = line_of e v ++ verdict_lines es vs

-- the whole text: a line for each entry, and their number
abbrev pub verdicts_text : List Entry → List Verdict → List ℕ
verdicts_text entries verdicts = verdict_lines entries verdicts ++ done_text (length entries)
