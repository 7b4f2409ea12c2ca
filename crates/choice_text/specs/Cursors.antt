-- The entries of a choice's text that are still to be read.
use Rattle.std.specs.Prelude.{ℕ, zero, suc, ◌≡◌, List, [], Ok}
use Rattle.texts.specs.Grammar.{Reading}
use Rattle.texts.specs.Lines.{whole_lines}
use Rattle.plan_entries.specs.declared.entries.Entry.{Entry}
use Rattle.report_text.specs.Cursors.{entries_of}
use Rattle.choice_text.specs.Lines.{entry_and}

-- so many entries, one after another
unfoldable pub entries_taken : ℕ → List (List ℕ) → Reading (List ℕ) (List Entry)
entries_taken zero ls = Ok ([], ls)
entries_taken (suc left) ls = entry_and (entries_taken left) ls

unfoldable pub entries_in : ℕ → List ℕ → List Entry
entries_in left bytes = entries_of (entries_taken left (whole_lines bytes))

-- so many entries are in front of the bytes
pub record AreInFront (left : ℕ) (bytes : List ℕ) : Type 0 where
  pub after : List (List ℕ)
  pub read : entries_taken left (whole_lines bytes) ≡ Ok (entries_in left bytes, after)
