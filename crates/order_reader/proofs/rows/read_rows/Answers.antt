use Rattle.std.proofs.Common.{◌≡◌, ◌∙◌, ◌+◌, ◌++◌, ◌∷◌, [], refl, sym, ap, arith, length, take, map, List}
use Rattle.std.proofs.lemmas.List.{map-append, length-map, take_more, length-take}
use Rattle.csv.specs.Records.{Row, fields_of}
use Rattle.order_reader.specs.Records.{Fields}
use Rattle.order_reader.specs.Rows.{row_of, rows_of_records}
use Rattle.order_reader.proofs.RowFacts.{rows-more}
use Rattle.order_reader.proofs.rows.read_rows.Goals as goal

pub loop-place-preserved : goal.loop-place-preserved
loop-place-preserved c =
    let records = c.args.records.now in
    let columns = c.args.columns.now in
    let place = c.loop-place.place in
    let own = c.index-records-place.result in
    let before : List Fields = map fields_of (take place records) in
    let taken : take (place + 1) records ≡ take place records ++ own ∷ [] = take_more records place own c.loop-place-test.true ∙ ap (λ (r : Row). take place records ++ r ∷ []) (sym c.index-records-place.is) in
    let size : length before ≡ place = omega (arith, length-map (take place records) fields_of, length-take place records) in
    let step : rows_of_records columns (map fields_of (take (place + 1) records)) ≡ rows_of_records columns before ++ row_of columns (length before + 1) (fields_of own) ∷ []
    = rw (taken, map-append fields_of (take place records) (own ∷ [])) (rows-more columns before (fields_of own)) in
    let row : c.in_ok-row.row ≡ row_of columns (length before + 1) (fields_of own) = rw size c.in_ok-row.ensures in
    rw (c.in_ok-push.ensures.items, step, ← row, ← c.loop-place.invariant) refl
