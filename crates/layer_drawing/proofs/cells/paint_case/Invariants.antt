use Rattle.plan_geometry.specs.Layout.{x_end}
use Rattle.layer_drawing.proofs.Painting.{ArePainted}
use Rattle.layer_drawing.proofs.cells.paint_case.Given as goal

abbrev pub invariant-loop-y : goal.invariant-loop-y
invariant-loop-y l = ArePainted l.inst.l_side l.inst.w_side l.spot.x (x_end l.inst l.spot) l.spot.y l.y l.character l.initial.cells l.cells
