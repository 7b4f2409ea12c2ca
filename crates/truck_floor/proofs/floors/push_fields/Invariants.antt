use Rattle.std.proofs.Common.{◌≡◌, ◌++◌, ◌-◌, [], take, drop}
use Rattle.csv.specs.Records.{fields_of, partial_of}
use Rattle.truck_floor.proofs.floors.push_fields.Given as goal

abbrev pub invariant-loop-place : goal.invariant-loop-place
invariant-loop-place l = record {
  fields : fields_of l.out ≡ fields_of l.fn.out ++ take (l.place - l.from) (drop l.from (fields_of l.fields));
  partial : partial_of l.out ≡ [];
}
