-- Which errors a reader of records may give.
use Rattle.std.specs.Prelude.{⊤}
use Rattle.csv.specs.declared.error.ErrorKind.{ErrorKind}
use Rattle.csv.specs.declared.error.ErrorKind.TheVariants.{Io, Utf8, UnequalLengths, Serialize, Deserialize, OutOfMemory}

-- Memory was refused, or the bytes could not be read, which bytes in memory always can. No record was refused for
-- its length or its text.
abbrev pub IsOfMemory : ErrorKind → Type 0
IsOfMemory (Io error) = ⊤
IsOfMemory (Utf8 pos error) = ⊥
IsOfMemory (UnequalLengths pos expected len) = ⊥
IsOfMemory (Serialize text) = ⊥
IsOfMemory (Deserialize pos error) = ⊥
IsOfMemory OutOfMemory = ⊤
