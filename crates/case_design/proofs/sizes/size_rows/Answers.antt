use Rattle.std.proofs.Common.{◌≡◌, ◌∙◌, ℕ, ◌+◌, ◌<◌, ◌++◌, ◌∷◌, [], List, refl, arith, length, take, get_or, length-take}
use Rattle.std.proofs.lemmas.List.{take_more, map-append}
use Rattle.std.specs.List.{enumerate_from}
use Rattle.csv.specs.Records.{fields_of}
use Rattle.order_reader.specs.Faults.{id_in}
use Rattle.order_reader.specs.declared.rows.Row.{Row}
use Rattle.order_reader.proofs.RowFacts.{enumerate-more}
use Rattle.case_design.specs.declared.briefs.Brief.{Brief}
use Rattle.case_design.specs.declared.sizes.Size.{Size}
use Rattle.case_design.specs.Sizes.{size_row as row_of_size, size_rows as rows_of_sizes}
use Rattle.case_design.proofs.sizes.size_rows.Goals as goal

rows_more : (id : List ℕ) (brief : Brief) (sizes : List Size) (size : Size) → rows_of_sizes id brief (sizes ++ size ∷ []) ≡ rows_of_sizes id brief sizes ++ row_of_size id brief (length sizes + 1) size ∷ []
rows_more id brief sizes size =
    let number : 1 + length sizes ≡ length sizes + 1 = omega arith in
    rw (enumerate-more 1 sizes size, map-append (λ (p : ℕ × Size). row_of_size id brief p.0 p.1) (enumerate_from 1 sizes) ((1 + length sizes, size) ∷ []), number) refl

one_more : (id : List ℕ) (brief : Brief) (sizes : List Size) (place : ℕ) (d : Size) (rows new : List Row) (row : Row) → place < length sizes → rows ≡ rows_of_sizes id brief (take place sizes) → new ≡ rows ++ row ∷ [] → row ≡ row_of_size id brief (place + 1) (get_or sizes place d) → new ≡ rows_of_sizes id brief (take (place + 1) sizes)
one_more id brief sizes place d rows new row lt before push is =
    let count : length (take place sizes) ≡ place = omega (arith, length-take place sizes) in
    push ∙ (rw (before, is) (rw (take_more sizes place d lt, rows_more id brief (take place sizes) (get_or sizes place d), count) refl))

pub loop-place-preserved : goal.loop-place-preserved
loop-place-preserved c =
    one_more (id_in (fields_of c.args.row.now)) c.args.brief.now c.args.sizes.now c.loop-place.place (record { long = 0; short = 0 }) c.loop-place.rows.items c.push.new.self.items c.in_ok-of_size.of_size c.loop-place-test.true c.loop-place.invariant c.in_ok-push.ensures.items c.in_ok-of_size.ensures
