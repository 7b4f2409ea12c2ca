use Rattle.std.proofs.Common.{◌≡◌, ◌++◌}
use Rattle.texts.specs.Lines.{text_of}
use Rattle.texts.specs.Puts.{Grows}
use Rattle.layer_drawing.specs.Drawing.{rows_below}
use Rattle.layer_drawing.proofs.puts.put_rows.Given as goal

abbrev pub invariant-loop-y : goal.invariant-loop-y
invariant-loop-y l = record {
  grows : Grows l.fn.out.items l.out.items;
  left : l.out.items ++ text_of (rows_below l.layer.inst l.layer.spots l.y) ≡ l.fn.out.items ++ text_of (rows_below l.layer.inst l.layer.spots l.layer.inst.w_side);
}
