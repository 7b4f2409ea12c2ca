-- Whether the bytes that were read are a designs file: a header, and at most one row under it.
use Rattle.std.specs.Prelude.{ℕ, ◌+◌, ◌≤◌, ◌≡◌, true, List, ◌++◌, length}
use Rattle.plan_io.specs.Streams.{Intake}
use Rattle.plan_io.specs.Causes.{Rose}
use Rattle.run_parts.specs.declared.codes.Code.{Code}
use Rattle.run_parts.specs.declared.codes.Code.TheVariants as codes
use Rattle.case_design.specs.declared.designs.Design.{Design}
use Rattle.case_design.specs.Designs.{IsDesignOf, HasNoHeader, HasManyRows}

-- how many bytes a designs file may have
abbrev pub most_bytes : ℕ
most_bytes = 262144

-- the bytes are no more than a file may have, and ask for this
pub record HasDesign (bytes : List ℕ) (design : Design) : Type 0 where
  pub few_bytes : length bytes ≤ most_bytes
  pub is_design : IsDesignOf bytes design

-- the first record is not the header, or there is none
pub record HasNoDesignHeader (bytes : List ℕ) : Type 0 where
  pub few_bytes : length bytes ≤ most_bytes
  pub no_header : HasNoHeader bytes

-- two or more rows follow the header
pub record HasManyDesigns (bytes : List ℕ) : Type 0 where
  pub few_bytes : length bytes ≤ most_bytes
  pub many_rows : HasManyRows bytes

-- What each code says of the bytes that were read where they gave no design, and of how the source stands then.
abbrev pub NoDesignMeans : Code → List ℕ → Intake → Intake → Type 0
NoDesignMeans codes.Done read from from' = ⊥
NoDesignMeans codes.Findings read from from' = ⊥
NoDesignMeans codes.Usage read from from' = ⊥
NoDesignMeans codes.TooLong read from from' = length read ≡ most_bytes + 1
NoDesignMeans codes.NoHeader read from from' = (from'.ended ≡ true) × HasNoDesignHeader read
NoDesignMeans codes.TooManyRows read from from' = (from'.ended ≡ true) × HasManyDesigns read
NoDesignMeans codes.BadReport read from from' = ⊥
NoDesignMeans codes.ReadFault read from from' = (length read ≤ most_bytes) × Rose from.faults from'.faults
NoDesignMeans codes.WriteFault read from from' = ⊥
NoDesignMeans codes.Memory read from from' = length read ≤ most_bytes + 1

-- What was read between two moments of a source gave no design, with this code.
pub record FoundNoDesign (from : Intake) (code : Code) (from' : Intake) : Type 0 where
  pub read : List ℕ
  pub given : from'.given ≡ from.given ++ read
  pub later : from.faults ≤ from'.faults
  pub means : NoDesignMeans code read from from'
