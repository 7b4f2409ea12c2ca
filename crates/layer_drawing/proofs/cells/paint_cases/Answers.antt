use Rattle.std.proofs.Common.{◌≡◌, ◌+◌, ◌-◌, arith}
use Rattle.layer_drawing.proofs.Letters.{case_painted}
use Rattle.layer_drawing.proofs.cells.paint_cases.Goals as goal

pub loop-number-preserved : goal.loop-number-preserved
loop-number-preserved c =
    let I = c.args.layer.now.inst in
    let m = c.loop-number.number in
    let next : (m - 1) + 1 ≡ m = omega (arith, c.loop-number-test.true) in
    case_painted I c.args.layer.now.spots (m - 1) m c.spot.result c.letter.result c.loop-number.cells c.paint_case.new.cells c.spot.ensures.value next c.letter.ensures (rw c.inst-inst.ensures.value at c.paint_case.ensures) c.loop-number.invariant
