use Rattle.std.proofs.Common.{◌≡◌, ◌++◌, take}
use Rattle.texts.specs.Lines.{text_of}
use Rattle.listing_text.specs.Text.{case_lines}
use Rattle.listing_text.proofs.layer_puts.put_cases.Given as goal

abbrev pub invariant-loop-spot : goal.invariant-loop-spot
invariant-loop-spot l = l.out.items ≡ l.fn.out.items ++ text_of (case_lines (take l.spot-index l.spots))
