-- The text of a truck floor: a first line, for each row the entries of its floor and of its load and their total, and how
-- many entries there are.
use Rattle.std.specs.Prelude.{ℕ, ◌≡◌, ◌+◌, ◌*◌, ◌<◌, ◌≤◌, ⊤, List, [], ◌∷◌, ◌++◌, length, codes}
use Rattle.std.specs.List.{flat_map}
use Rattle.texts.specs.Lines.{ended}
use Rattle.cert_text.specs.declared.forms.Form.TheVariants.{Two}
use Rattle.plan_entries.specs.declared.entries.Entry.{Entry}
use Rattle.plan_entries.specs.Entries.{number_of_entry}
use Rattle.plan_entries.specs.Ranges.{IsInRange}
use Rattle.report_text.specs.Text.{entry_lines, entry_text}
use Rattle.report_text.specs.Reports.{done_line, done_text, report_text}
use Rattle.truck_floor.specs.Text.{total_line, total_text, IsTotalLine}
use Rattle.floor_text.specs.declared.rows.FloorRow.{FloorRow}

-- the two entries of a row, that of the floor first
abbrev pub both_entries : FloorRow → List Entry
both_entries r = r.floor ∷ r.load ∷ []

-- those of all rows, in order
abbrev pub entries_in : List FloorRow → List Entry
entries_in rows = flat_map both_entries rows

abbrev pub head_line : List ℕ
head_line = codes "pallet-floor 1"

abbrev pub row_lines : FloorRow → List (List ℕ)
row_lines r = entry_lines Two r.floor ++ (entry_lines Two r.load ++ total_line r.total ∷ [])

abbrev pub rows_lines : List FloorRow → List (List ℕ)
rows_lines rows = flat_map row_lines rows

abbrev pub floor_lines : List FloorRow → List (List ℕ)
floor_lines rows = head_line ∷ (rows_lines rows ++ done_line (2 * length rows) ∷ [])

-- the same as texts
abbrev pub head_text : List ℕ
head_text = ended head_line

abbrev pub row_text : FloorRow → List ℕ
row_text r = entry_text Two r.floor ++ (entry_text Two r.load ++ total_text r.total)

abbrev pub rows_text : List FloorRow → List ℕ
rows_text rows = flat_map row_text rows

abbrev pub floor_text : List FloorRow → List ℕ
floor_text rows = head_text ++ (rows_text rows ++ done_text (2 * length rows))

-- the entry bears this number, and is within the ranges of today's form
abbrev pub IsNumbered : ℕ → Entry → Type 0
IsNumbered number e = IsInRange Two e × (number_of_entry e ≡ number)

-- a row behind so many others: its entries are numbered on, and its total is within the ranges
pub record IsRow (before : ℕ) (r : FloorRow) : Type 0 where
  pub floor : IsNumbered (2 * before + 1) r.floor
  pub load : IsNumbered (2 * before + 2) r.load
  pub total : IsTotalLine r.total

-- rows behind so many others
abbrev pub AreRowsFrom : ℕ → List FloorRow → Type 0
AreRowsFrom before [] = ⊤
AreRowsFrom before (r ∷ rs) = IsRow before r × AreRowsFrom (before + 1) rs

-- the rows of a floor's text: at most 128, whose entries are numbered from 1 without a gap
pub record IsFloor (rows : List FloorRow) : Type 0 where
  pub few : length rows ≤ 128
  pub numbered : AreRowsFrom 0 rows

-- the bytes are this text
pub record IsFloorIn (bytes : List ℕ) (rows : List FloorRow) : Type 0 where
  pub is_floor : IsFloor rows
  pub text : bytes ≡ floor_text rows

-- the report of the entries is shorter than 160,000,000 bytes
abbrev pub HasShortReport : List FloorRow → Type 0
HasShortReport rows = length (report_text Two (entries_in rows)) < 160000000
