use Rattle.order_reader.specs.Columns.{all_columns}
use Rattle.order_reader.proofs.FieldFacts.{found-named, own-named}
use Rattle.order_reader.proofs.fields.Field.named.Goals as goal

pub returns-clause-found : goal.returns-clause-found
returns-clause-found c = rw (c.first_named.ensures, c.all_fields.ensures.all) (found-named c.args.name.now all_columns)

pub returns-clause-each : goal.returns-clause-each
returns-clause-each c = λ field is. rw (c.first_named.ensures, c.all_fields.ensures.all, ← is) (own-named field)
