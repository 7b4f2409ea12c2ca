-- Reading the text of a choice line by line.
use Rattle.std.specs.Prelude.{ℕ, zero, suc, ◌+◌, List, [], ◌∷◌, length, codes, Bool, false, is_some, Ok, if◌then◌else◌}
use Rattle.texts.specs.Grammar.{Reading, ◌>>=◌, first_by}
use Rattle.cert_text.specs.declared.forms.Form.TheVariants.{Two}
use Rattle.plan_entries.specs.Ranges.{most_entries}
use Rattle.plan_entries.specs.declared.entries.Entry.{Entry}
use Rattle.pallet_choice.specs.Text.{TailValue}
use Rattle.pallet_choice.specs.Lines.{tail_at}
use Rattle.report_text.specs.Lines.{behind_line, entry_at}
use Rattle.report_text.specs.ReportLines.{counted}
use Rattle.choice_text.specs.Text.{ChoiceFile, head_line}
use Rattle.choice_text.specs.Words.{numbered_of}

-- the first line is that of the entry of this number
abbrev pub entry_follows : ℕ → List (List ℕ) → Bool
entry_follows number [] = false
entry_follows number (l ∷ ls) = is_some (numbered_of (codes "entry") number l)

-- an entry, and the others after it
abbrev pub entry_and : (List (List ℕ) → Reading (List ℕ) (List Entry)) → List (List ℕ) → Reading (List ℕ) (List Entry)
entry_and others ls = do
  e ← entry_at Two ls
  es ← others e.1
  Ok (e.0 ∷ es.0, es.1)

-- the entries that follow one after another, numbered on after so many, and at most so many more
unfoldable pub entries_from : ℕ → ℕ → List (List ℕ) → Reading (List ℕ) (List Entry)
entries_from zero before ls = Ok ([], ls)
entries_from (suc more) before ls = if entry_follows (before + 1) ls then entry_and (entries_from more (before + 1)) ls else Ok ([], ls)

abbrev pub all_entries_at : List (List ℕ) → Reading (List ℕ) (List Entry)
all_entries_at = entries_from (most_entries Two) 0

-- how many they are
abbrev pub entries_counted : List (List ℕ) → Reading (List ℕ) ℕ
entries_counted ls = all_entries_at ls >>= counted

-- the chosen entry and its rivals, and the line of the number of entries
unfoldable pub end_at : ℕ → List (List ℕ) → Reading (List ℕ) TailValue
end_at count ls = do
  tail ← tail_at ls
  done ← first_by (numbered_of (codes "done") count) tail.1
  Ok (tail.0, done.1)

unfoldable pub file_at : List (List ℕ) → Reading (List ℕ) ChoiceFile
file_at ls = do
  rest ← behind_line head_line ls
  entries ← all_entries_at rest
  tail ← end_at (length entries.0) entries.1
  Ok (record { entries = entries.0; tail = tail.0 }, tail.1)
