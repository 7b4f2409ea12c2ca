-- A whole report: its first line tells the form, then come the entries, numbered from 1, then their number.
use Rattle.std.specs.Prelude.{ℕ, ◌+◌, ◌≡◌, ◌≤◌, ⊤, List, [], ◌∷◌, ◌++◌, length, codes, decimal}
use Rattle.std.specs.List.{flat_map}
use Rattle.texts.specs.Lines.{spaced, ended}
use Rattle.cert_text.specs.declared.forms.Form.{Form}
use Rattle.cert_text.specs.declared.forms.Form.TheVariants.{One, Two}
use Rattle.plan_entries.specs.Entries.{number_of_entry}
use Rattle.plan_entries.specs.Ranges.{most_entries, IsInRange}
use Rattle.plan_entries.specs.declared.entries.Entry.{Entry}
use Rattle.report_text.specs.Text.{entry_lines, entry_text}

abbrev pub head_line : Form → List ℕ
head_line One = codes "pallet-report 1"
head_line Two = codes "pallet-report 2"

abbrev pub done_line : ℕ → List ℕ
done_line count = spaced (codes "done" ∷ decimal count ∷ [])

abbrev pub entries_lines : Form → List Entry → List (List ℕ)
entries_lines form entries = flat_map (entry_lines form) entries

-- what a report is: its form, and its entries
pub record Report : Type 0 where
  pub form : Form
  pub entries : List Entry

abbrev pub report_lines : Report → List (List ℕ)
report_lines r = head_line r.form ∷ (entries_lines r.form r.entries ++ done_line (length r.entries) ∷ [])

-- the same as texts
abbrev pub head_text : Form → List ℕ
head_text form = ended (head_line form)

abbrev pub entries_text : Form → List Entry → List ℕ
entries_text form entries = flat_map (entry_text form) entries

abbrev pub done_text : ℕ → List ℕ
done_text count = ended (done_line count)

abbrev pub report_text : Form → List Entry → List ℕ
report_text form entries = head_text form ++ (entries_text form entries ++ done_text (length entries))

-- the entries are numbered from n on without a gap, and each is within the form's ranges
abbrev pub AreNumberedFrom : Form → ℕ → List Entry → Type 0
AreNumberedFrom form n [] = ⊤
AreNumberedFrom form n (e ∷ es) = ((number_of_entry e ≡ n) × IsInRange form e) × AreNumberedFrom form (n + 1) es

-- the entries of a report
pub record AreReported (form : Form) (entries : List Entry) : Type 0 where
  pub few : length entries ≤ most_entries form
  pub numbered : AreNumberedFrom form 1 entries

abbrev pub IsReport : Report → Type 0
IsReport r = AreReported r.form r.entries
