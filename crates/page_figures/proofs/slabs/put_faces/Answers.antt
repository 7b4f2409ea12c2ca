use Rattle.std.proofs.Common.{arith, drop, reverse}
use Rattle.std.specs.List.{flat_map}
use Rattle.std.proofs.lemmas.Result.{err_from_is_err_and}
use Rattle.texts.proofs.Growth.{grows_after}
use Rattle.plan_geometry.specs.declared.spots.Way.TheVariants.{Lying}
use Rattle.page_figures.specs.Slabs.{faces_of_case}
use Rattle.page_figures.proofs.Backwards.{each_before}
use Rattle.page_figures.proofs.slabs.put_faces.Goals as goal

pub loop-place-preserved : goal.loop-place-preserved
loop-place-preserved c =
    each_before (faces_of_case c.args.sides) c.args.out.now.items c.loop-place.out.items c.put_faces_of_case.new.out.items c.loop-place.place c.args.spots.now (record { x = 0; y = 0; way = Lying }) c.loop-place-test.true (omega (arith, c.loop-place.auto.place)) c.loop-place.invariant c.in_ok-put_faces_of_case.ensures

pub returns-in_err-put_faces_of_case : goal.returns-in_err-put_faces_of_case
returns-in_err-put_faces_of_case c =
    let p = err_from_is_err_and c.from_residual.result c.from_residual.ensures.1 in
    rw p.1 (grows_after c.args.out.now.items (flat_map (faces_of_case c.args.sides) (reverse (drop c.loop-place.place c.args.spots.now))) c.loop-place.out.items c.put_faces_of_case.new.out.items c.loop-place.invariant c.in_err-put_faces_of_case.ensures)
