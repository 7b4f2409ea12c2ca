use Rattle.std.proofs.Common.{◌≡◌, ◌+◌, ◌*◌, ◌≤◌, arith}
use Rattle.plan_geometry.specs.Layout.{x_end}
use Rattle.layer_drawing.proofs.Painting.{row_painted}
use Rattle.layer_drawing.proofs.cells.paint_case.Goals as goal

pub loop-y-preserved : goal.loop-y-preserved
loop-y-preserved c =
    let I = c.args.inst in
    let s = c.args.spot in
    let y = c.loop-y.y in
    let low : s.y ≤ y = omega (arith, c.loop-y.auto.y) in
    let to : (y * I.l_side + s.x) + c.extent_along-across.result ≡ y * I.l_side + x_end I s = omega (arith, c.extent_along-across.ensures.extent) in
    row_painted I.l_side I.w_side s.x (x_end I s) s.y y c.args.character c.args.cells.now c.loop-y.cells c.paint_run.new.cells (omega arith) c.requires.inside.in_x low c.loop-y.invariant (λ i. rw to at (c.paint_run.ensures i))
