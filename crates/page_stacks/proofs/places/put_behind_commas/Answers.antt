use Rattle.std.proofs.Common.{take}
use Rattle.std.specs.List.{flat_map}
use Rattle.std.proofs.lemmas.Result.{err_from_is_err_and}
use Rattle.texts.proofs.Growth.{grows_after}
use Rattle.page_pieces.proofs.Loops.{each_more}
use Rattle.page_stacks.specs.Places.{behind_comma}
use Rattle.page_stacks.proofs.places.put_behind_commas.Goals as goal

pub loop-number-preserved : goal.loop-number-preserved
loop-number-preserved c = each_more behind_comma c.args.out.now.items c.loop-number.out.items c.put_behind_comma.new.out.items c.loop-number.number-index c.args.numbers.now 0 c.loop-number-test.true c.loop-number.invariant c.in_ok-put_behind_comma.ensures

pub returns-in_err-put_behind_comma : goal.returns-in_err-put_behind_comma
returns-in_err-put_behind_comma c =
    let p = err_from_is_err_and c.from_residual.result c.from_residual.ensures.1 in
    rw p.1 (grows_after c.args.out.now.items (flat_map behind_comma (take c.loop-number.number-index c.args.numbers.now)) c.loop-number.out.items c.put_behind_comma.new.out.items c.loop-number.invariant c.in_err-put_behind_comma.ensures)
