-- The records of an orders file.
use Rattle.std.specs.Prelude.{List, ℕ}
use Rattle.csv.specs.Reading.{records, default_config, strip_bom}

-- a record, by the bytes of its fields
abbrev pub Fields : Type 0
Fields = List (List ℕ)

-- The records that a CSV reader gives of a file, after a byte order mark: the comma between fields,
-- the double quote around one, LF or CRLF at a line's end, no header handling, any number of fields,
-- and nothing trimmed.
abbrev pub records_of : List ℕ → List Fields
records_of bytes = records default_config (strip_bom bytes)
