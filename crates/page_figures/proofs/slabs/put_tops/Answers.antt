use Rattle.std.proofs.Common.{take}
use Rattle.std.specs.List.{flat_map}
use Rattle.std.proofs.lemmas.Result.{err_from_is_err_and}
use Rattle.texts.proofs.Growth.{grows_after}
use Rattle.plan_geometry.specs.declared.spots.Way.TheVariants.{Lying}
use Rattle.page_figures.specs.Slabs.{top_of_case}
use Rattle.page_pieces.proofs.Loops.{each_more}
use Rattle.page_figures.proofs.slabs.put_tops.Goals as goal

pub loop-spot-preserved : goal.loop-spot-preserved
loop-spot-preserved c =
    each_more (top_of_case c.args.sides) c.args.out.now.items c.loop-spot.out.items c.put_top_of_case.new.out.items c.loop-spot.spot-index c.args.spots.now (record { x = 0; y = 0; way = Lying }) c.loop-spot-test.true c.loop-spot.invariant c.in_ok-put_top_of_case.ensures

pub returns-in_err-put_top_of_case : goal.returns-in_err-put_top_of_case
returns-in_err-put_top_of_case c =
    let p = err_from_is_err_and c.from_residual.result c.from_residual.ensures.1 in
    rw p.1 (grows_after c.args.out.now.items (flat_map (top_of_case c.args.sides) (take c.loop-spot.spot-index c.args.spots.now)) c.loop-spot.out.items c.put_top_of_case.new.out.items c.loop-spot.invariant c.in_err-put_top_of_case.ensures)
