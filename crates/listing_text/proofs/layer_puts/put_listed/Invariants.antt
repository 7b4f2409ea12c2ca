use Rattle.std.proofs.Common.{◌≡◌, ◌++◌, take}
use Rattle.texts.specs.Lines.{text_of}
use Rattle.listing_text.specs.Text.{listed_lines}
use Rattle.listing_text.proofs.layer_puts.put_listed.Given as goal

abbrev pub invariant-loop-place : goal.invariant-loop-place
invariant-loop-place l = l.out.items ≡ l.fn.out.items ++ text_of (listed_lines 1 (take l.place l.layers))
