use Rattle.std.proofs.Common.{take}
use Rattle.std.proofs.lemmas.Result.{err_from_is_err_and}
use Rattle.texts.specs.Lines.{text_of}
use Rattle.texts.proofs.Growth.{grows_after}
use Rattle.plan_geometry.specs.declared.spots.Way.TheVariants.{Lying}
use Rattle.listing_text.specs.Text.{case_lines}
use Rattle.listing_text.proofs.CaseLines.{spot_at}
use Rattle.listing_text.proofs.Pieces.{cases_more}
use Rattle.listing_text.proofs.layer_puts.put_cases.Goals as goal

pub loop-spot-preserved : goal.loop-spot-preserved
loop-spot-preserved c = cases_more c.args.out.now.items c.loop-spot.out.items c.put_case.new.out.items c.loop-spot.spot-index c.args.spots.now (spot_at 0 0 Lying) c.loop-spot-test.true c.loop-spot.invariant c.in_ok-put_case.ensures

pub returns-in_err-put_case : goal.returns-in_err-put_case
returns-in_err-put_case c =
    let p = err_from_is_err_and c.from_residual.result c.from_residual.ensures.1 in
    rw p.1 (grows_after c.args.out.now.items (text_of (case_lines (take c.loop-spot.spot-index c.args.spots.now))) c.loop-spot.out.items c.put_case.new.out.items c.loop-spot.invariant c.in_err-put_case.ensures)
