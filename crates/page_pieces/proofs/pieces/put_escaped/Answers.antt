use Rattle.std.proofs.Common.{take}
use Rattle.std.specs.List.{flat_map}
use Rattle.std.proofs.lemmas.Result.{err_from_is_err_and}
use Rattle.texts.proofs.Growth.{grows_after}
use Rattle.page_pieces.specs.Pieces.{escaped_byte}
use Rattle.page_pieces.proofs.Loops.{each_more}
use Rattle.page_pieces.proofs.pieces.put_escaped.Goals as goal

pub loop-byte-preserved : goal.loop-byte-preserved
loop-byte-preserved c = each_more escaped_byte c.args.out.now.items c.loop-byte.out.items c.put_byte.new.out.items c.loop-byte.byte-index c.args.id.now 0 c.loop-byte-test.true c.loop-byte.invariant c.in_ok-put_byte.ensures

pub returns-in_err-put_byte : goal.returns-in_err-put_byte
returns-in_err-put_byte c =
    let p = err_from_is_err_and c.from_residual.result c.from_residual.ensures.1 in
    rw p.1 (grows_after c.args.out.now.items (flat_map escaped_byte (take c.loop-byte.byte-index c.args.id.now)) c.loop-byte.out.items c.put_byte.new.out.items c.loop-byte.invariant c.in_err-put_byte.ensures)
