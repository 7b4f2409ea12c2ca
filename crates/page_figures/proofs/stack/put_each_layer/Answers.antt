use Rattle.std.proofs.Common.{take}
use Rattle.page_pieces.specs.Pieces.{numbered}
use Rattle.std.proofs.lemmas.Result.{err_from_is_err_and}
use Rattle.texts.proofs.Growth.{grows_after}
use Rattle.page_figures.specs.Stack.{layer_text}
use Rattle.page_pieces.proofs.Loops.{numbered_more}
use Rattle.page_figures.proofs.stack.put_each_layer.Goals as goal

pub loop-below-preserved : goal.loop-below-preserved
loop-below-preserved c =
    numbered_more (layer_text c.args.sides c.args.sheet) c.args.out.now.items c.loop-below.out.items c.put_layer.new.out.items c.loop-below.below c.args.numbers.now 0 c.loop-below-test.true c.loop-below.invariant c.in_ok-put_layer.ensures

pub returns-in_err-put_layer : goal.returns-in_err-put_layer
returns-in_err-put_layer c =
    let p = err_from_is_err_and c.from_residual.result c.from_residual.ensures.1 in
    rw p.1 (grows_after c.args.out.now.items (numbered (layer_text c.args.sides c.args.sheet) 1 (take c.loop-below.below c.args.numbers.now)) c.loop-below.out.items c.put_layer.new.out.items c.loop-below.invariant c.in_err-put_layer.ensures)
