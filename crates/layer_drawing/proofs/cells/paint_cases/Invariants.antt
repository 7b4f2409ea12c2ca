use Rattle.std.proofs.Common.{◌≡◌, ℕ, ◌<◌, drop}
use Rattle.layer_drawing.specs.Cells.{at_cell}
use Rattle.layer_drawing.proofs.Letters.{shown}
use Rattle.layer_drawing.proofs.cells.paint_cases.Given as goal

abbrev pub invariant-loop-number : goal.invariant-loop-number
invariant-loop-number l = (x y : ℕ) → x < l.layer.inst.l_side → y < l.layer.inst.w_side → at_cell l.layer.inst l.cells x y ≡ shown l.layer.inst l.number (drop l.number l.layer.spots) x y
