-- Reading the text of a floor line by line.
use Rattle.std.specs.Prelude.{ℕ, zero, suc, ◌+◌, ◌*◌, List, [], ◌∷◌, length, codes, Ok, Err, if◌then◌else◌}
use Rattle.texts.specs.Grammar.{Reading, ◌>>=◌, first_by}
use Rattle.cert_text.specs.declared.forms.Form.TheVariants.{Two}
use Rattle.plan_entries.specs.declared.entries.Entry.{Entry}
use Rattle.report_text.specs.Lines.{behind_line, entry_at}
use Rattle.truck_floor.specs.Words.{total_of}
use Rattle.choice_text.specs.Words.{numbered_of}
use Rattle.choice_text.specs.Lines.{entry_follows}
use Rattle.floor_text.specs.declared.rows.FloorRow.{FloorRow}
use Rattle.floor_text.specs.Text.{head_line}

-- the entry of this number
unfoldable pub numbered_entry_at : ℕ → List (List ℕ) → Reading (List ℕ) Entry
numbered_entry_at number ls = if entry_follows number ls then entry_at Two ls else Err (length ls)

-- a row behind so many rows
unfoldable pub row_at : ℕ → List (List ℕ) → Reading (List ℕ) FloorRow
row_at before ls = do
  floor ← numbered_entry_at (2 * before + 1) ls
  load ← numbered_entry_at (2 * before + 2) floor.1
  total ← first_by total_of load.1
  Ok (record { floor = floor.0; load = load.0; total = total.0 }, total.1)

-- a row behind so many rows, and the others after it
abbrev pub row_and : ℕ → (List (List ℕ) → Reading (List ℕ) (List FloorRow)) → List (List ℕ) → Reading (List ℕ) (List FloorRow)
row_and before others ls = do
  r ← row_at before ls
  rs ← others r.1
  Ok (r.0 ∷ rs.0, rs.1)

-- the rows that follow one after another, behind so many, and at most so many more
unfoldable pub rows_from : ℕ → ℕ → List (List ℕ) → Reading (List ℕ) (List FloorRow)
rows_from zero before ls = Ok ([], ls)
rows_from (suc more) before ls = if entry_follows (2 * before + 1) ls then row_and before (rows_from more (before + 1)) ls else Ok ([], ls)

abbrev pub all_rows_at : List (List ℕ) → Reading (List ℕ) (List FloorRow)
all_rows_at = rows_from 128 0

-- how many they are
abbrev pub counted : List FloorRow × List (List ℕ) → Reading (List ℕ) ℕ
counted x = Ok (length x.0, x.1)

abbrev pub rows_counted : List (List ℕ) → Reading (List ℕ) ℕ
rows_counted ls = all_rows_at ls >>= counted

unfoldable pub floor_at : List (List ℕ) → Reading (List ℕ) (List FloorRow)
floor_at ls = do
  rest ← behind_line head_line ls
  rows ← all_rows_at rest
  done ← first_by (numbered_of (codes "done") (2 * length rows.0)) rows.1
  Ok (rows.0, done.1)
