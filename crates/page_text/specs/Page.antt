-- The page of a report: what stands before the sheets, a sheet for each entry, and the summary.
use Rattle.std.specs.Prelude.{ℕ, ◌≡◌, ◌+◌, List, [], ◌∷◌, ◌++◌, codes}
use Rattle.std.specs.List.{concat}
use Rattle.plan_entries.specs.declared.entries.Entry.{Entry}
use Rattle.plan_entries.specs.declared.entries.Entry.TheVariants.{Planned, Refused}
use Rattle.page_words.specs.Words.{refused_sheet}
use Rattle.page_text.specs.declared.summary.Summary.{Summary}
use Rattle.page_text.specs.Styles.{opening_rest}
use Rattle.page_text.specs.Counts.{counts_of}
use Rattle.page_text.specs.Rows.{rows_text}
use Rattle.page_text.specs.Closing.{summary_text}
use Rattle.page_text.specs.Sheets.{planned_sheet}

-- the head of the page with all its styles, up to the first sheet
abbrev pub top_text : List ℕ
top_text = codes "<!DOCTYPE html>\n" ++ opening_rest

-- the sheet of this number, of an entry
unfoldable pub sheet_text : ℕ → Entry → List ℕ
sheet_text n (Planned p) = planned_sheet n p
sheet_text n (Refused number fault) = refused_sheet n number fault

-- the summary of the entries, and the end of the page
unfoldable pub closing_text : List Entry → List ℕ
closing_text es = summary_text (counts_of es) (rows_text es)

-- the sheets of entries, numbered from this number on
abbrev pub sheets_from : ℕ → List Entry → List (List ℕ)
sheets_from n [] = []
sheets_from n (e ∷ es) = sheet_text n e ∷ sheets_from (n + 1) es

-- the page piece by piece
abbrev pub pieces_of : List Entry → List (List ℕ)
pieces_of es = top_text ∷ (sheets_from 1 es ++ closing_text es ∷ [])

abbrev pub page_of : List Entry → List ℕ
page_of es = concat (pieces_of es)

-- the summary counts these entries, and has their rows
unfoldable pub IsSummaryOf : Summary → List Entry → Type 0
IsSummaryOf s es = (s.counts ≡ counts_of es) × (s.rows.items ≡ rows_text es)
