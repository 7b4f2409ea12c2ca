use Rattle.std.proofs.Common.{◌≡◌, ◌++◌, append_assoc}
use Rattle.std.specs.Prelude.{codes, decimal}
use Rattle.texts.specs.Lines.{ended, spaced, text_of}
use Rattle.texts.specs.Puts.{Puts}
use Rattle.texts.proofs.Growth.{then_puts, puts_as}
use Rattle.weightings.specs.declared.kinds.Weighting.TheVariants as weightings
use Rattle.cert_text.specs.Text.{weighting_words, row_lines}
use Rattle.cert_text.proofs.puts.put_table.Goals as goal

pub returns : goal.returns
returns c =
    let a = c.args in
    let e0 : c.put_named.new.out.items ≡ a.out.now.items ++ (codes "weighting table " ++ decimal a.table.now.x_side) = rw (c.from.ensures, c.x_side.ensures.value) at c.in_ok-put_named.ensures in
    let e1 : c.put_named-2.new.out.items ≡ c.put_named.new.out.items ++ (codes " " ++ decimal a.table.now.y_side) = rw (c.from-2.ensures, c.y_side.ensures.value) at c.in_ok-put_named-2.ensures in
    let e2 : c.put_text.new.out.items ≡ c.put_named-2.new.out.items ++ (codes "\n") = c.in_ok-put_text.ensures in
    let p : Puts a.out.now.items c.put_rows.new.out.items ((codes "weighting table " ++ decimal a.table.now.x_side) ++ ((codes " " ++ decimal a.table.now.y_side) ++ ((codes "\n") ++ (text_of (row_lines a.table.now.x_side a.table.now.y_side a.table.now.cells))))) c.put_rows.result = then_puts (a.out.now.items) (c.put_named.new.out.items) (c.put_rows.new.out.items) (codes "weighting table " ++ decimal a.table.now.x_side) ((codes " " ++ decimal a.table.now.y_side) ++ ((codes "\n") ++ (text_of (row_lines a.table.now.x_side a.table.now.y_side a.table.now.cells)))) c.put_rows.result e0 (then_puts (c.put_named.new.out.items) (c.put_named-2.new.out.items) (c.put_rows.new.out.items) (codes " " ++ decimal a.table.now.y_side) ((codes "\n") ++ (text_of (row_lines a.table.now.x_side a.table.now.y_side a.table.now.cells))) c.put_rows.result e1 (then_puts (c.put_named-2.new.out.items) (c.put_text.new.out.items) (c.put_rows.new.out.items) (codes "\n") (text_of (row_lines a.table.now.x_side a.table.now.y_side a.table.now.cells)) c.put_rows.result e2 (c.put_rows.ensures))) in
    puts_as a.out.now.items c.put_rows.new.out.items ((codes "weighting table " ++ decimal a.table.now.x_side) ++ ((codes " " ++ decimal a.table.now.y_side) ++ ((codes "\n") ++ (text_of (row_lines a.table.now.x_side a.table.now.y_side a.table.now.cells))))) (ended (spaced (weighting_words (weightings.Table a.table.now))) ++ text_of (row_lines a.table.now.x_side a.table.now.y_side a.table.now.cells)) c.put_rows.result p (simp append_assoc)
