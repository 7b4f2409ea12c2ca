-- The entries of a report that are still to be read.
use Rattle.std.specs.Prelude.{ℕ, ◌+◌, ◌≡◌, ◌≤◌, List, [], ◌++◌, length, Ok, Err}
use Rattle.texts.specs.Grammar.{Reading}
use Rattle.texts.specs.Lines.{whole_lines}
use Rattle.cert_text.specs.declared.forms.Form.{Form}
use Rattle.plan_entries.specs.Ranges.{most_entries}
use Rattle.plan_entries.specs.declared.entries.Entry.{Entry}
use Rattle.report_text.specs.ReportLines.{entries_from}
use Rattle.report_text.specs.Reports.{entries_text, done_text, AreNumberedFrom}

abbrev pub entries_of : Reading (List ℕ) (List Entry) → List Entry
entries_of (Ok x) = x.0
entries_of (Err left) = []

-- so many entries, behind so many others
unfoldable pub entries_in : Form → ℕ → ℕ → List ℕ → List Entry
entries_in form left before bytes = entries_of (entries_from form left before (whole_lines bytes))

-- the bytes are the text of these entries, and of the line of the number of all
pub record IsRest (form : Form) (left before : ℕ) (bytes : List ℕ) : Type 0 where
  pub few : before + left ≤ most_entries form
  pub count : length (entries_in form left before bytes) ≡ left
  pub numbered : AreNumberedFrom form (before + 1) (entries_in form left before bytes)
  pub text : bytes ≡ entries_text form (entries_in form left before bytes) ++ done_text (before + left)
