use Rattle.csv.specs.Records.{fields_of}
use Rattle.case_design.proofs.ColumnFacts.{long_side}
use Rattle.case_design.proofs.designs.accepted.Goals as goal

pub sizes_of-requires-clause-some : goal.sizes_of-requires-clause-some
sizes_of-requires-clause-some c = (long_side (fields_of c.args.row.now) c.args.brief.now c.requires.brief).0

pub sizes_of-requires-clause-small : goal.sizes_of-requires-clause-small
sizes_of-requires-clause-small c = (long_side (fields_of c.args.row.now) c.args.brief.now c.requires.brief).1
