use Rattle.std.proofs.Common.{◌≡◌, sym, Some, arith}
use Rattle.csv.specs.Records.{fields_of, partial_of, field_at}
use Rattle.order_reader.proofs.RowFacts.{field-there}
use Rattle.truck_floor.proofs.FieldRanges.{pushed}
use Rattle.truck_floor.proofs.floors.push_fields.Goals as goal

pub unreachable-requires : goal.unreachable-requires
unreachable-requires c =
    let within = c.requires.within in
    field-there (fields_of c.args.fields.now) c.loop-place.place (omega arith) (sym (rw c.in_default.is at c.get.ensures.value))

pub loop-place-preserved : goal.loop-place-preserved
loop-place-preserved c =
    let there : field_at (fields_of c.args.fields.now) c.loop-place.place ≡ Some c.in-Some.field.now = sym (rw c.in-Some.is at c.get.ensures.value) in
    record {
      fields = pushed (fields_of c.args.out.now) (fields_of c.loop-place.out) (fields_of c.push_field.new.self) (partial_of c.loop-place.out) c.in-Some.field.now (fields_of c.args.fields.now) c.args.from c.loop-place.place
          (omega arith) there c.loop-place.invariant.partial c.loop-place.invariant.fields c.in_ok-push_field.ensures.fields;
      partial = c.in_ok-push_field.ensures.partial;
    }
