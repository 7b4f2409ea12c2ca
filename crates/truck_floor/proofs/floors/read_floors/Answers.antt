use Rattle.std.proofs.Common.{◌≡◌, ◌∙◌, ◌+◌, ◌++◌, ◌∷◌, [], sym, ap, arith, length, take, map, List}
use Rattle.std.proofs.lemmas.List.{map-append, length-map, take_more, length-take}
use Rattle.csv.specs.Records.{Row, fields_of}
use Rattle.order_reader.specs.Records.{Fields}
use Rattle.truck_floor.specs.FloorRows.{rows_of_floors}
use Rattle.truck_floor.proofs.FloorOrders.{both-pushed}
use Rattle.truck_floor.proofs.floors.read_floors.Goals as goal

pub loop-place-preserved : goal.loop-place-preserved
loop-place-preserved c =
    let floors = c.args.floors.now in
    let place = c.loop-place.place in
    let own = c.index-floors-place.result in
    let before : List Fields = map fields_of (take place floors) in
    let taken : take (place + 1) floors ≡ take place floors ++ own ∷ [] = take_more floors place own c.loop-place-test.true ∙ ap (λ (r : Row). take place floors ++ r ∷ []) (sym c.index-floors-place.is) in
    let size : length before ≡ place = omega (arith, length-map (take place floors) fields_of, length-take place floors) in
    let more : map fields_of (take (place + 1) floors) ≡ before ++ fields_of own ∷ [] = ap (map fields_of) taken ∙ map-append fields_of (take place floors) (own ∷ []) in
    both-pushed before (fields_of own) place c.loop-place.rows.items c.push.new.self.items c.push-in-loop-place.new.self.items c.in_ok-floor.floor c.in_ok-floor.load size
    c.loop-place.invariant c.in_ok-floor.ensures.floor c.in_ok-floor.ensures.load c.in_ok-push.ensures.items c.in_ok-push-2.ensures.items
    ∙ ap rows_of_floors (sym more)
