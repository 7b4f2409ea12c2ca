-- Ranges of places in a row.
use Rattle.std.specs.Prelude.{ℕ, ◌≤◌, List, All}
use Rattle.line_search.specs.declared.blocks.Range.{Range}

-- a range of n places
pub record IsRange (n : ℕ) (r : Range) : Type 0 where
  pub ordered : r.from ≤ r.to
  pub within : r.to ≤ n

-- ranges of n places
abbrev pub AreRanges : ℕ → List Range → Type 0
AreRanges n ranges = All (IsRange n) ranges
