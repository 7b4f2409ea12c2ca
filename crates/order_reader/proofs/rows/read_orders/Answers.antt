use Rattle.std.proofs.Common.{◌≡◌, ◌∙◌, ◌∷◌, sym, ap, arith, map, List, Some}
use Rattle.std.proofs.lemmas.List.{length-map}
use Rattle.csv.specs.Records.{Row, fields_of}
use Rattle.order_reader.specs.Records.{records_of}
use Rattle.order_reader.specs.Columns.{columns_under}
use Rattle.order_reader.proofs.RowFacts.{rows-length, rows-are}
use Rattle.order_reader.proofs.rows.read_orders.Goals as goal

pub returns-then-rest-gt-MOST_ROWS-clause-too_many : goal.returns-then-rest-gt-MOST_ROWS-clause-too_many
returns-then-rest-gt-MOST_ROWS-clause-too_many c = λ e.
    let rest = map fields_of c.in-Some.rest.now in
    let columns = c.in-Some-columns_of.columns.now in
    let all : records_of c.args.bytes.now ≡ fields_of c.in-Some.first.now ∷ rest =
    sym c.in-Ok.ensures ∙ ap (λ (rows : List Row). map fields_of rows) (sym c.as_slice.ensures.value ∙ c.in-Some.ensures.cases.0) in
    let header : columns_under (fields_of c.in-Some.first.now) ≡ Some columns = sym c.in-Some-columns_of.ensures in
    rw (rows-are c.args.bytes.now (fields_of c.in-Some.first.now) rest columns all header)
    (omega (arith, rows-length columns rest, length-map c.in-Some.rest.now fields_of))

pub returns-in-Ok-read_rows-clause-few : goal.returns-in-Ok-read_rows-clause-few
returns-in-Ok-read_rows-clause-few c =
    let rest = map fields_of c.in-Some.rest.now in
    rw c.in-Ok-read_rows.ensures
    (omega (arith, rows-length c.in-Some-columns_of.columns.now rest, length-map c.in-Some.rest.now fields_of))
