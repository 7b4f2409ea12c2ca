-- What `floor` wrote of the rows that were read: the whole text of their entries and totals, the first bytes of one, or its
-- first whole rows.
use Rattle.std.specs.Prelude.{ℕ, ◌≡◌, ◌==◌, ◌*◌, ◌+◌, Bool, List, ◌++◌, length, take, All}
use Rattle.run_parts.specs.Written.{IsPrefixOf}
use Rattle.order_reader.specs.declared.rows.Row.{Row}
use Rattle.plan_entries.specs.Entries.{any_refused}
use Rattle.plan_mode.specs.Entries.{IsEntryOf, AreEntriesOf}
use Rattle.plan_mode.specs.Accepted.{AreAccepted}
use Rattle.plan_mode.specs.Pieces.{done_if}
use Rattle.floor_text.specs.declared.rows.FloorRow.{FloorRow}
use Rattle.floor_text.specs.Text.{entries_in, head_text, rows_text, floor_text, IsRow, AreRowsFrom}
use Rattle.floor_mode.specs.FloorsFiles.{HasFloors}
use Rattle.floor_mode.specs.Totals.{IsTotalLineOf}

-- the total is that of the two entries
abbrev pub HasItsTotal : FloorRow → Type 0
HasItsTotal r = IsTotalLineOf r.floor r.load r.total

-- a row behind so many: the entries of these two orders' rows, and their total
pub record IsPlannedRow (before : ℕ) (first second : Row) (r : FloorRow) : Type 0 where
  pub floor : IsEntryOf (2 * before + 1) first r.floor
  pub load : IsEntryOf (2 * before + 2) second r.load
  pub total : HasItsTotal r
  pub is_row : IsRow before r

-- the entries of all orders' rows, two and two with their total
pub record ArePlanned (rows : List Row) (floors : List FloorRow) : Type 0 where
  pub entries : AreEntriesOf rows (entries_in floors)
  pub totals : All HasItsTotal floors
  pub are_rows : AreRowsFrom 0 floors

-- those of the first orders' rows
abbrev pub AreFirstPlanned : List Row → List FloorRow → Type 0
AreFirstPlanned rows floors = ArePlanned (take (2 * length floors) rows) floors

-- What was read has rows, and what was written is the text of their entries and totals; the entries are such as `check`
-- accepts. `found` says whether a row was refused.
pub record FloorReported (read wrote : List ℕ) (found : Bool) : Type 0 where
  pub rows : List Row
  pub has_rows : HasFloors read rows
  pub floors : List FloorRow
  pub planned : ArePlanned rows floors
  pub accepted : AreAccepted (entries_in floors)
  pub text : wrote ≡ floor_text floors
  pub finding : any_refused (entries_in floors) ≡ found

-- the text of some first of so many orders' rows: the last line only where each has its entry
abbrev pub begun_text : ℕ → List FloorRow → List ℕ
begun_text count floors = head_text ++ (rows_text floors ++ done_if (2 * length floors == count) count)

-- What was read has rows, and what was written are the first bytes of a text that has the entries and totals of the first
-- rows, and the last line only where each row has its entry.
pub record FloorBegun (read wrote : List ℕ) : Type 0 where
  pub rows : List Row
  pub has_rows : HasFloors read rows
  pub floors : List FloorRow
  pub planned : AreFirstPlanned rows floors
  pub front : IsPrefixOf (begun_text (length rows) floors) wrote

-- What was read has rows, and what was written is the first line and, for the first rows of the file, the whole texts of
-- their two entries and their total.
pub record FloorBrokeOff (read wrote : List ℕ) : Type 0 where
  pub rows : List Row
  pub has_rows : HasFloors read rows
  pub floors : List FloorRow
  pub planned : AreFirstPlanned rows floors
  pub text : wrote ≡ head_text ++ rows_text floors
