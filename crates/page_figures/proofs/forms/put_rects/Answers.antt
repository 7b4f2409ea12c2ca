use Rattle.std.proofs.Common.{take}
use Rattle.page_pieces.specs.Pieces.{numbered}
use Rattle.std.proofs.lemmas.Result.{err_from_is_err_and}
use Rattle.texts.proofs.Growth.{grows_after}
use Rattle.plan_geometry.specs.declared.spots.Way.TheVariants.{Lying}
use Rattle.page_figures.specs.Forms.{rect_text}
use Rattle.page_pieces.proofs.Loops.{numbered_more}
use Rattle.page_figures.proofs.forms.put_rects.Goals as goal

pub loop-place-preserved : goal.loop-place-preserved
loop-place-preserved c =
    numbered_more (rect_text c.args.sides) c.args.out.now.items c.loop-place.out.items c.put_rect.new.out.items c.loop-place.place c.args.spots.now (record { x = 0; y = 0; way = Lying }) c.loop-place-test.true c.loop-place.invariant c.in_ok-put_rect.ensures

pub returns-in_err-put_rect : goal.returns-in_err-put_rect
returns-in_err-put_rect c =
    let p = err_from_is_err_and c.from_residual.result c.from_residual.ensures.1 in
    rw p.1 (grows_after c.args.out.now.items (numbered (rect_text c.args.sides) 1 (take c.loop-place.place c.args.spots.now)) c.loop-place.out.items c.put_rect.new.out.items c.loop-place.invariant c.in_err-put_rect.ensures)
