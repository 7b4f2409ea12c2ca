use Rattle.std.proofs.Common.{take}
use Rattle.std.proofs.lemmas.Result.{err_from_is_err_and}
use Rattle.texts.proofs.Growth.{grows_after}
use Rattle.pallet_choice.proofs.Pieces.{rivals_text, rivals_more}
use Rattle.pallet_choice.proofs.puts.put_rivals.Goals as goal

pub loop-score-preserved : goal.loop-score-preserved
loop-score-preserved c = rivals_more c.args.out.now.items c.loop-score.out.items c.put_rival.new.out.items c.loop-score.score-index c.args.rivals.now (record { number = 0; count = 0; bound = 0 }) c.loop-score-test.true c.loop-score.invariant c.in_ok-put_rival.ensures

pub returns-in_err-put_rival : goal.returns-in_err-put_rival
returns-in_err-put_rival c =
    let p = err_from_is_err_and c.from_residual.result c.from_residual.ensures.1 in
    rw p.1 (grows_after c.args.out.now.items (rivals_text (take c.loop-score.score-index c.args.rivals.now)) c.loop-score.out.items c.put_rival.new.out.items c.loop-score.invariant c.in_err-put_rival.ensures)
