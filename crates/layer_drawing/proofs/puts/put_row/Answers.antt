use Rattle.std.proofs.Common.{◌≡◌, ◌+◌, ◌-◌, ◌*◌, ◌++◌, ℕ, List, ap, ◌∙◌, arith}
use Rattle.std.specs.Prelude.{codes}
use Rattle.texts.proofs.Growth.{then_puts}
use Rattle.layer_drawing.specs.Drawing.{row_of}
use Rattle.layer_drawing.proofs.Rows.{row_is}
use Rattle.layer_drawing.proofs.puts.put_row.Goals as goal

pub returns : goal.returns
returns c =
    let a = c.args in
    let I = a.layer.now.inst in
    let spots = a.layer.now.spots in
    let is = row_is I spots a.cells.now a.y c.requires.drawn c.requires.within in
    let len : (a.y * I.l_side + I.l_side) - a.y * I.l_side ≡ I.l_side = omega arith in
    let e0 : c.put_text.new.out.items ≡ a.out.now.items ++ row_of I spots a.y = rw (c.inst-across.ensures.value, len) at c.in_ok-put_text.ensures ∙ ap (λ (t : List ℕ). a.out.now.items ++ t) is in
    then_puts a.out.now.items c.put_text.new.out.items c.put_text-2.new.out.items (row_of I spots a.y) (codes "\n") c.put_text-2.result e0 c.put_text-2.ensures
