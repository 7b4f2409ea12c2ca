use Rattle.std.proofs.Common.{◌≡◌, ◌++◌, take}
use Rattle.page_pieces.specs.Pieces.{numbered}
use Rattle.page_figures.specs.Forms.{form_text}
use Rattle.page_figures.proofs.forms.put_forms.Given as goal

abbrev pub invariant-loop-place : goal.invariant-loop-place
invariant-loop-place l = l.out.items ≡ l.fn.out.items ++ numbered (form_text l.sides) 1 (take l.place l.layers)
