use Rattle.std.proofs.Common.{take, []}
use Rattle.std.proofs.lemmas.Result.{err_from_is_err_and}
use Rattle.texts.proofs.Growth.{grows_after}
use Rattle.page_pieces.specs.Pieces.{piece_text, pieces_text}
use Rattle.page_pieces.specs.declared.pieces.Piece.TheVariants as pieces
use Rattle.page_pieces.proofs.Loops.{each_more}
use Rattle.page_pieces.proofs.pieces.put_pieces.Goals as goal

pub loop-piece-preserved : goal.loop-piece-preserved
loop-piece-preserved c = each_more piece_text c.args.out.now.items c.loop-piece.out.items c.put_piece.new.out.items c.loop-piece.piece-index c.args.pieces.now (pieces.Text (record { ref_ptr = (0, 0); now = [] })) c.loop-piece-test.true c.loop-piece.invariant c.in_ok-put_piece.ensures

pub returns-in_err-put_piece : goal.returns-in_err-put_piece
returns-in_err-put_piece c =
    let p = err_from_is_err_and c.from_residual.result c.from_residual.ensures.1 in
    rw p.1 (grows_after c.args.out.now.items (pieces_text (take c.loop-piece.piece-index c.args.pieces.now)) c.loop-piece.out.items c.put_piece.new.out.items c.loop-piece.invariant c.in_err-put_piece.ensures)
