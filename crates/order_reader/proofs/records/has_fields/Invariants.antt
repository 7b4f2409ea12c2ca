use Rattle.std.proofs.Common.{◌≡◌, ℕ, Bor, List, drop, map}
use Rattle.std.specs.Str.{bytes_eq}
use Rattle.std.specs.Cmp.Lexicographic.{pointwise}
use Rattle.csv.specs.Records.{fields_of}
use Rattle.order_reader.specs.Columns.{same_fields}
use Rattle.order_reader.proofs.records.has_fields.Given as goal

abbrev pub invariant-loop-place : goal.invariant-loop-place
invariant-loop-place l = same_fields (fields_of l.fn.fields) (map (λ (f : Bor (List ℕ)). f.now) l.wanted) ≡ pointwise bytes_eq (drop l.place (fields_of l.fn.fields)) (map (λ (f : Bor (List ℕ)). f.now) (drop l.place l.wanted))
