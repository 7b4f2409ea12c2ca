use Rattle.std.proofs.Common.{◌≡◌, ◌-◌, ◌++◌, ℕ, suc, sym, subst, arith}
use Rattle.std.proofs.lemmas.Result.{err_from_is_err_and}
use Rattle.texts.specs.Lines.{ended, text_of}
use Rattle.texts.proofs.Growth.{grows_after}
use Rattle.layer_drawing.specs.Drawing.{row_of, rows_below}
use Rattle.layer_drawing.proofs.Rows.{row_less, grows_on}
use Rattle.layer_drawing.proofs.puts.put_rows.Goals as goal

pub loop-y-preserved : goal.loop-y-preserved
loop-y-preserved c =
    let I = c.args.layer.now.inst in
    let spots = c.args.layer.now.spots in
    let y = c.loop-y.y in
    let next : suc (y - 1) ≡ y = omega (arith, c.loop-y-test.true) in
    let whole = c.args.out.now.items ++ text_of (rows_below I spots I.w_side) in
    let before = subst (λ (n : ℕ). c.loop-y.out.items ++ text_of (rows_below I spots n) ≡ whole) (sym next) c.loop-y.invariant.left in
    record {
      grows = grows_on c.args.out.now.items c.loop-y.out.items c.put_row.new.out.items (ended (row_of I spots (y - 1))) c.loop-y.invariant.grows c.in_ok-put_row.ensures;
      left = row_less c.loop-y.out.items c.put_row.new.out.items I spots (y - 1) whole before c.in_ok-put_row.ensures;
    }

pub returns-in_err-put_row : goal.returns-in_err-put_row
returns-in_err-put_row c =
    let p = err_from_is_err_and c.from_residual.result c.from_residual.ensures.1 in
    let g = c.loop-y.invariant.grows in
    rw p.1 (grows_after c.args.out.now.items g.0 c.loop-y.out.items c.put_row.new.out.items g.1 c.in_err-put_row.ensures)
