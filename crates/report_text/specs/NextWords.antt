-- Reading the lines between the entries of a report.
use Rattle.std.specs.Prelude.{ℕ, ◌+◌, List, codes, Option, Some, None, if◌then◌else◌}
use Rattle.std.specs.Str.{bytes_eq}
use Rattle.texts.specs.Lines.{words_of}
use Rattle.texts.specs.Words.{◌>>=◌, word_by, behind, this_number, all_words}
use Rattle.report_text.specs.declared.nexts.Next.{Next}
use Rattle.report_text.specs.declared.nexts.Next.TheVariants.{Done, More}

-- the number of entries, from the line behind the last
unfoldable pub done_at : ℕ → List (List ℕ) → Option (ℕ × List (List ℕ))
done_at before ws = do
  rest ← behind (codes "done") ws
  word_by (this_number before) rest

unfoldable pub done_of : ℕ → List ℕ → Option ℕ
done_of before line = all_words (done_at before (words_of line))

abbrev pub next_kind_of : List ℕ → Option Next
next_kind_of w = if bytes_eq w (codes "done") then Some Done else if bytes_eq w (codes "entry") then Some More else None

-- the number that stands behind the word
abbrev pub next_number : ℕ → Next → ℕ
next_number before Done = before
next_number before More = before + 1

unfoldable pub next_at : ℕ → List (List ℕ) → Option (Next × List (List ℕ))
next_at before ws = do
  kind ← word_by next_kind_of ws
  number ← word_by (this_number (next_number before kind.0)) kind.1
  Some (kind.0, number.1)

-- behind so many entries: the line of their number, or that of the next entry
unfoldable pub next_of : ℕ → List ℕ → Option Next
next_of before line = all_words (next_at before (words_of line))
