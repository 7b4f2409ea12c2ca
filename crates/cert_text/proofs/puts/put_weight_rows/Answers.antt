use Rattle.std.proofs.Common.{◌≡◌, ◌++◌, ◌*◌, ◌∙◌, ap, take, drop, List, ℕ}
use Rattle.std.proofs.lemmas.Result.{err_from_is_err_and}
use Rattle.texts.specs.Lines.{ended, spaced, text_of}
use Rattle.texts.proofs.Growth.{grows_after}
use Rattle.cert_text.specs.Text.{row_words, row_lines}
use Rattle.cert_text.proofs.Pieces.{rows_more, rest_more}
use Rattle.cert_text.proofs.puts.put_weight_rows.Goals as goal

pub returns-in_err-put_number_line : goal.returns-in_err-put_number_line
returns-in_err-put_number_line c =
    let p = err_from_is_err_and c.from_residual.result c.from_residual.ensures.1 in
    rw p.1 (grows_after c.args.out.now.items (text_of (row_lines c.args.width c.loop-row._row c.args.weights.now)) c.loop-row.out.items c.put_number_line.new.out.items c.loop-row.invariant.put c.in_err-put_number_line.ensures)

pub loop-row-preserved : goal.loop-row-preserved
loop-row-preserved c =
    let a = c.args in
    let here : c.split_at.result.0.now ≡ take a.width (drop (c.loop-row._row * a.width) a.weights.now) = c.split_at.ensures.front ∙ ap (λ (t : List ℕ). take a.width t) c.loop-row.invariant.left in
    record {
      put = rows_more a.out.now.items c.loop-row.out.items c.put_number_line.new.out.items a.width c.loop-row._row a.weights.now c.loop-row.invariant.put (c.in_ok-put_number_line.ensures ∙ ap (λ (row : List ℕ). c.loop-row.out.items ++ ended (spaced (row_words row))) here);
      left = rest_more a.width c.loop-row._row a.weights.now c.loop-row.rest.now c.split_at.result.1.now c.loop-row.invariant.left c.split_at.ensures.back;
    }
