use Rattle.std.proofs.Common.{◌≡◌, ◌++◌, take}
use Rattle.page_pieces.specs.Pieces.{numbered}
use Rattle.page_figures.specs.Forms.{rect_text}
use Rattle.page_figures.proofs.forms.put_rects.Given as goal

abbrev pub invariant-loop-place : goal.invariant-loop-place
invariant-loop-place l = l.out.items ≡ l.fn.out.items ++ numbered (rect_text l.sides) 1 (take l.place l.spots)
