-- Reading a whole report line by line.
use Rattle.std.specs.Prelude.{ℕ, zero, suc, ◌+◌, List, [], ◌∷◌, length, codes, Option, Some, None, Ok, if◌then◌else◌}
use Rattle.std.specs.Str.{bytes_eq}
use Rattle.texts.specs.Grammar.{Reading, ◌>>=◌, first_by}
use Rattle.cert_text.specs.declared.forms.Form.{Form}
use Rattle.cert_text.specs.declared.forms.Form.TheVariants.{One, Two}
use Rattle.plan_entries.specs.Ranges.{most_entries}
use Rattle.plan_entries.specs.declared.entries.Entry.{Entry}
use Rattle.report_text.specs.Lines.{entry_behind}
use Rattle.report_text.specs.NextWords.{next_of, done_of}
use Rattle.report_text.specs.declared.nexts.Next.{Next}
use Rattle.report_text.specs.declared.nexts.Next.TheVariants.{Done, More}

-- what the first line says of the form
abbrev pub form_of : List ℕ → Option Form
form_of line = if bytes_eq line (codes "pallet-report 1") then Some One else if bytes_eq line (codes "pallet-report 2") then Some Two else None

-- what follows the next line: nothing behind the last, else an entry of this number and what others gives
abbrev pub entries_behind : Form → ℕ → (List (List ℕ) → Reading (List ℕ) (List Entry)) → Next → List (List ℕ) → Reading (List ℕ) (List Entry)
entries_behind form number others Done ls = Ok ([], ls)
entries_behind form number others More ls = do
  e ← entry_behind form number ls
  es ← others e.1
  Ok (e.0 ∷ es.0, es.1)

-- the entries behind so many, at most so many more, and the line of how many there are
unfoldable pub entries_from : Form → ℕ → ℕ → List (List ℕ) → Reading (List ℕ) (List Entry)
entries_from form zero before ls = do
  done ← first_by (done_of before) ls
  Ok ([], done.1)
entries_from form (suc more) before ls = do
  next ← first_by (next_of before) ls
  entries_behind form (before + 1) (entries_from form more (before + 1)) next.0 next.1

-- how many entries are read
abbrev pub counted : List Entry × List (List ℕ) → Reading (List ℕ) ℕ
counted x = Ok (length x.0, x.1)

unfoldable pub entries_counted : Form → List (List ℕ) → Reading (List ℕ) ℕ
entries_counted form ls = entries_from form (most_entries form) 0 ls >>= counted
