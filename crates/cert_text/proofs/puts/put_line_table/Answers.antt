use Rattle.std.proofs.Common.{◌≡◌, ◌++◌, length}
use Rattle.std.specs.Prelude.{codes, decimal}
use Rattle.texts.specs.Lines.{text_of}
use Rattle.texts.proofs.Growth.{then_puts, puts_as}
use Rattle.weightings.specs.declared.kinds.Weighting.TheVariants as weightings
use Rattle.cert_text.specs.Text.{weighting_lines, rows_of}
use Rattle.cert_text.proofs.Pieces.{counts_text}
use Rattle.cert_text.proofs.puts.put_line_table.Goals as goal

pub returns : goal.returns
returns c =
    let old = c.args.out.now.items in
    let t = c.args.table.now in
    let k = codes "weighting lines " ++ decimal (length t.columns) in
    let m = codes " " ++ decimal (length t.rows) in
    let behind = text_of (rows_of (weightings.Lines t)) in
    let one = c.put_named.new.out.items in
    let two = c.put_named-2.new.out.items in
    let three = c.put_text.new.out.items in
    let new = c.put_crossings.new.out.items in
    let e0 : c.put_named.new.out.items ≡ old ++ (codes "weighting lines " ++ decimal (length t.columns)) = rw c.columns.ensures.value at c.in_ok-put_named.ensures in
    let e1 : c.put_named-2.new.out.items ≡ c.put_named.new.out.items ++ (codes " " ++ decimal (length t.rows)) = rw c.rows.ensures.value at c.in_ok-put_named-2.ensures in
    let e2 : c.put_text.new.out.items ≡ c.put_named-2.new.out.items ++ codes "\n" = c.in_ok-put_text.ensures in
    let p = then_puts old one new k (m ++ (codes "\n" ++ behind)) c.put_crossings.result e0 (then_puts one two new m (codes "\n" ++ behind) c.put_crossings.result e1 (then_puts two three new (codes "\n") behind c.put_crossings.result e2 c.put_crossings.ensures)) in
    puts_as old new (k ++ (m ++ (codes "\n" ++ behind))) (text_of (weighting_lines (weightings.Lines t))) c.put_crossings.result p (counts_text (length t.columns) (length t.rows) behind)
