-- The rows of a floor's text that are still to be read.
use Rattle.std.specs.Prelude.{ℕ, zero, suc, ◌+◌, ◌≡◌, ◌≤◌, List, [], Ok, Err}
use Rattle.texts.specs.Grammar.{Reading}
use Rattle.texts.specs.Lines.{whole_lines}
use Rattle.floor_text.specs.declared.rows.FloorRow.{FloorRow}
use Rattle.floor_text.specs.Lines.{row_and}

-- so many rows, one after another, behind so many others
unfoldable pub rows_taken : ℕ → ℕ → List (List ℕ) → Reading (List ℕ) (List FloorRow)
rows_taken zero before ls = Ok ([], ls)
rows_taken (suc left) before ls = row_and before (rows_taken left (before + 1)) ls

abbrev pub rows_of : Reading (List ℕ) (List FloorRow) → List FloorRow
rows_of (Ok x) = x.0
rows_of (Err left) = []

unfoldable pub rows_in : ℕ → ℕ → List ℕ → List FloorRow
rows_in left before bytes = rows_of (rows_taken left before (whole_lines bytes))

-- so many rows, and no more than a text has, are in front of the bytes
pub record AreInFront (left before : ℕ) (bytes : List ℕ) : Type 0 where
  pub few : before + left ≤ 128
  pub after : List (List ℕ)
  pub read : rows_taken left before (whole_lines bytes) ≡ Ok (rows_in left before bytes, after)
