use Rattle.std.proofs.Common.{◌≡◌, ◌<◌, ◌++◌, ◌∷◌, ◌*◌, ◌+◌, ◌∙◌, ap, get_or, arith}
use Rattle.std.specs.Prelude.{decimal}
use Rattle.cert_text.proofs.Pieces.{cells_more}
use Rattle.cert_text.proofs.puts.put_cells.Goals as goal

pub loop-x-preserved : goal.loop-x-preserved
loop-x-preserved c =
    let a = c.args in
    let t = a.table.now in
    let i = c.loop-x.x in
    let lt : i < t.x_side = omega (arith, c.loop-x-test.true, c.x_side-x-end.ensures.value) in
    let cell : c.from.result ≡ get_or t.cells (a.y * t.x_side + i) 0 = c.from.ensures ∙ c.cell.ensures.value in
    let now : c.put_named.new.out.items ≡ c.loop-x.out.items ++ 32 ∷ decimal (get_or t.cells (a.y * t.x_side + i) 0) = c.in_ok-put_named.ensures ∙ ap (λ n. c.loop-x.out.items ++ 32 ∷ decimal n) cell in
    cells_more a.out.now.items c.loop-x.out.items c.put_named.new.out.items t.x_side t.y_side a.y i t.cells lt c.requires c.x_side-x-end.ensures.table.count c.loop-x.invariant now
