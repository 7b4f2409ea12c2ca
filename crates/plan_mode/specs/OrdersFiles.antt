-- Whether the bytes that were read are an orders file: a header, and at most so many rows under it.
use Rattle.std.specs.Prelude.{ℕ, ◌+◌, ◌<◌, ◌≤◌, ◌≡◌, true, List, ◌++◌, length, Some, None, IsSomeAnd}
use Rattle.plan_io.specs.Streams.{Intake}
use Rattle.plan_io.specs.Causes.{Rose}
use Rattle.run_parts.specs.declared.codes.Code.{Code}
use Rattle.run_parts.specs.declared.codes.Code.TheVariants as codes
use Rattle.order_reader.specs.Rows.{rows_of}
use Rattle.order_reader.specs.declared.rows.Row.{Row}

-- how many bytes an orders file may have, and how many rows
abbrev pub most_bytes : ℕ
most_bytes = 262144

abbrev pub most_rows : ℕ
most_rows = 256

-- the bytes are no more than a file may have, and have these rows under a header, which are no more either
pub record HasRows (bytes : List ℕ) (rows : List Row) : Type 0 where
  pub few_bytes : length bytes ≤ most_bytes
  pub is_rows : rows_of bytes ≡ Some rows
  pub few_rows : length rows ≤ most_rows

-- the first record is not a header, or there is none
pub record HasNoHeader (bytes : List ℕ) : Type 0 where
  pub few_bytes : length bytes ≤ most_bytes
  pub no_rows : rows_of bytes ≡ None

-- more rows follow the header than a file may have
pub record HasTooManyRows (bytes : List ℕ) : Type 0 where
  pub few_bytes : length bytes ≤ most_bytes
  pub too_many : IsSomeAnd (rows_of bytes) (λ rows. most_rows < length rows)

-- What each code says of the bytes that were read where they gave no rows, and of how the source stands then.
abbrev pub NoRowsMeans : Code → List ℕ → Intake → Intake → Type 0
NoRowsMeans codes.Done read from from' = ⊥
NoRowsMeans codes.Findings read from from' = ⊥
NoRowsMeans codes.Usage read from from' = ⊥
NoRowsMeans codes.TooLong read from from' = length read ≡ most_bytes + 1
NoRowsMeans codes.NoHeader read from from' = (from'.ended ≡ true) × HasNoHeader read
NoRowsMeans codes.TooManyRows read from from' = (from'.ended ≡ true) × HasTooManyRows read
NoRowsMeans codes.BadReport read from from' = ⊥
NoRowsMeans codes.ReadFault read from from' = (length read ≤ most_bytes) × Rose from.faults from'.faults
NoRowsMeans codes.WriteFault read from from' = ⊥
NoRowsMeans codes.Memory read from from' = length read ≤ most_bytes + 1

-- What was read between two moments of a source gave no rows, with this code.
pub record FoundNoRows (from : Intake) (code : Code) (from' : Intake) : Type 0 where
  pub read : List ℕ
  pub given : from'.given ≡ from.given ++ read
  pub later : from.faults ≤ from'.faults
  pub means : NoRowsMeans code read from from'
