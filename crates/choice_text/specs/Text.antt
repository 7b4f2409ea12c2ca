-- The text of a choice among pallets: a first line, the entries, which of them is chosen, and how many they are.
use Rattle.std.specs.Prelude.{ℕ, ◌≡◌, ◌<◌, List, [], ◌∷◌, ◌++◌, length, codes}
use Rattle.texts.specs.Lines.{ended}
use Rattle.cert_text.specs.declared.forms.Form.TheVariants.{Two}
use Rattle.plan_entries.specs.declared.entries.Entry.{Entry}
use Rattle.pallet_choice.specs.Text.{TailValue, tail_lines, tail_text}
use Rattle.pallet_choice.specs.Ranges.{IsTail}
use Rattle.report_text.specs.Reports.{done_line, done_text, entries_lines, entries_text, report_text, AreReported}

-- what it tells: the entries, and the chosen one with its rivals
pub record ChoiceFile : Type 0 where
  pub entries : List Entry
  pub tail : TailValue

abbrev pub head_line : List ℕ
head_line = codes "pallet-choice 1"

abbrev pub file_lines : ChoiceFile → List (List ℕ)
file_lines f = head_line ∷ (entries_lines Two f.entries ++ (tail_lines f.tail ++ done_line (length f.entries) ∷ []))

-- the same as texts
abbrev pub head_text : List ℕ
head_text = ended head_line

abbrev pub file_text : ChoiceFile → List ℕ
file_text f = head_text ++ (entries_text Two f.entries ++ (tail_text f.tail ++ done_text (length f.entries)))

-- the entries are numbered from 1 without a gap, and all is within its range
pub record IsChoiceFile (f : ChoiceFile) : Type 0 where
  pub reported : AreReported Two f.entries
  pub is_tail : IsTail f.tail

-- the bytes are this text
pub record IsChoiceIn (bytes : List ℕ) (f : ChoiceFile) : Type 0 where
  pub is_file : IsChoiceFile f
  pub text : bytes ≡ file_text f

-- the entries' report is shorter than 160,000,000 bytes
abbrev pub HasShortReport : ChoiceFile → Type 0
HasShortReport f = length (report_text Two f.entries) < 160000000
