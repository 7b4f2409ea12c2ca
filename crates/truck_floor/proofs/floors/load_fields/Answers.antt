use Rattle.std.proofs.Common.{◌≡◌, ◌++◌, take, drop, ap, ◌∙◌, arith, length-drop}
use Rattle.std.proofs.lemmas.List.{take_all}
use Rattle.csv.specs.Records.{fields_of}
use Rattle.order_reader.specs.Records.{Fields}
use Rattle.truck_floor.proofs.floors.load_fields.Goals as goal

pub returns : goal.returns
returns c =
    let fields = fields_of c.args.fields.now in
    let size = c.requires in
    let last : take 12 (drop 3 fields) ≡ drop 3 fields = take_all 12 (drop 3 fields) (omega (arith, length-drop 3 fields)) in
    c.in_ok-push_fields-2.ensures.fields ∙ ap (λ (front : Fields). front ++ take 12 (drop 3 fields)) (c.in_ok-push_fields.ensures.fields ∙ ap (λ (none : Fields). none ++ take 1 fields) c.new-own.ensures.fields)
    ∙ ap (λ (rest : Fields). take 1 fields ++ rest) last
