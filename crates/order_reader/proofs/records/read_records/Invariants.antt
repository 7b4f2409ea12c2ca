use Rattle.std.proofs.Common.{map}
use Rattle.csv.specs.Records.{fields_of}
use Rattle.order_reader.proofs.ReadSoFar.{ReadSoFar}
use Rattle.order_reader.proofs.records.read_records.Given as goal

abbrev pub invariant-loop-record : goal.invariant-loop-record
invariant-loop-record l = ReadSoFar l.fn.bytes (map fields_of l.records.items) l.record-iterator.rdr l.record-iterator.left
