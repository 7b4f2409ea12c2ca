use Rattle.std.proofs.Common.{◌≡◌, List, length, subst, arith}
use Rattle.std.proofs.lemmas.List.{nil_from_length}
use Rattle.csv.specs.Records.{fields_of}
use Rattle.case_design.specs.declared.sizes.Size.{Size}
use Rattle.case_design.specs.Sizes.{AreSizes}
use Rattle.case_design.proofs.ColumnFacts.{long_side}
use Rattle.case_design.proofs.SizeSteps.{some_list}
use Rattle.case_design.proofs.designs.design_of_row.Goals as goal

pub count_sizes-requires-clause-some : goal.count_sizes-requires-clause-some
count_sizes-requires-clause-some c = (long_side (fields_of c.args.row.now) c.in-Ok.brief c.in-Ok.ensures.brief).0

pub count_sizes-requires-clause-small : goal.count_sizes-requires-clause-small
count_sizes-requires-clause-small c = (long_side (fields_of c.args.row.now) c.in-Ok.brief c.in-Ok.ensures.brief).1

pub returns-in-0 : goal.returns-in-0
returns-in-0 c =
    let some = some_list c.in-Ok.brief in
    let count : length some.0 ≡ 0 = omega (arith, c.count_sizes.ensures some.0 some.1, c.in-0.is) in
    record {
      brief = c.in-Ok.brief;
      is_brief = c.in-Ok.ensures.brief;
      none = subst (λ (sizes : List Size). AreSizes c.in-Ok.brief sizes) (nil_from_length some.0 count) some.1;
    }

pub returns-in_default : goal.returns-in_default
returns-in_default c =
    let some = some_list c.in-Ok.brief in
    record {
      brief = c.in-Ok.brief;
      is_brief = c.in-Ok.ensures.brief;
      sizes = some.0;
      are_sizes = some.1;
      many = omega (arith, c.count_sizes.ensures some.0 some.1, c.in_default);
    }
