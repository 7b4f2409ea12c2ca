use Rattle.std.proofs.Common.{take}
use Rattle.std.proofs.lemmas.Result.{err_from_is_err_and}
use Rattle.texts.proofs.Growth.{grows_after}
use Rattle.listing_text.proofs.Pieces.{behind_spaces, numbers_more}
use Rattle.report_text.proofs.puts.put_numbers.Goals as goal

pub loop-number-preserved : goal.loop-number-preserved
loop-number-preserved c = numbers_more c.args.out.now.items c.loop-number.out.items c.put_named.new.out.items c.loop-number.number-index c.args.numbers.now c.loop-number-test.true c.loop-number.invariant (rw c.from.ensures at c.in_ok-put_named.ensures)

pub returns-in_err-put_named : goal.returns-in_err-put_named
returns-in_err-put_named c =
    let p = err_from_is_err_and c.from_residual.result c.from_residual.ensures.1 in
    rw p.1 (grows_after c.args.out.now.items (behind_spaces (take c.loop-number.number-index c.args.numbers.now)) c.loop-number.out.items c.put_named.new.out.items c.loop-number.invariant c.in_err-put_named.ensures)
