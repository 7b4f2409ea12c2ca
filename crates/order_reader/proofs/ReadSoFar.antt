-- How far a reader of records has come.
use Rattle.std.proofs.Common.{Bor, List, ℕ, ◌≡◌, ◌<◌, Some, true, false}
use Rattle.csv.specs.Reading.{Reached, Ready, default_config, source_of, strip_bom, ExplainsRead}
use Rattle.csv.specs.declared.error.ErrorKind.{ErrorKind}
use Rattle.csv.specs.declared.error.ErrorKind.TheVariants.{Io, Utf8, UnequalLengths, Serialize, Deserialize, OutOfMemory}
use Rattle.csv.specs.declared.reader.Reader.{Reader}
use Rattle.csv.specs.declared.parser.State.TheVariants.{StartRecord}
use Rattle.csv.specs.declared.reader.Trim.TheVariants as trim
use Rattle.order_reader.specs.Records.{Fields}
use Rattle.order_reader.specs.Refusals.{IsOfMemory}

-- The records take a text from its start to the bytes that the reader has left; it takes records of any length, and
-- changes nothing in them.
pub record ReadSoFar (text : List ℕ) (records : List Fields) (reader : Reader (Bor (List ℕ))) (turns : ℕ) : Type 0 where
  pub untrimmed : reader.trim ≡ trim.None
  pub ready : Ready reader
  pub more_turns : 0 < turns
  pub config : reader.config ≡ default_config
  pub flexible : reader.flexible ≡ true
  pub left : List ℕ
  pub source : source_of (λ (s : Bor (List ℕ)). Some s.now) reader ≡ Some left
  pub reached : Reached default_config StartRecord (strip_bom text) records reader.state left

-- a flexible reader of bytes refuses no record
pub of-memory : (old new : Reader (Bor (List ℕ))) (kind : ErrorKind) → old.flexible ≡ true → ExplainsRead (λ (s : Bor (List ℕ)). Some s.now) old new false kind → IsOfMemory kind
of-memory old new (Io error) flexible why = tt
of-memory old new (Utf8 pos error) flexible why = let e = why.0 in cc
of-memory old new (UnequalLengths pos expected len) flexible why = let e : old.flexible ≡ false = why.0 in cc
of-memory old new (Serialize text) flexible why = why
of-memory old new (Deserialize pos error) flexible why = why
of-memory old new OutOfMemory flexible why = tt
