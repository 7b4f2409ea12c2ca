use Rattle.std.proofs.Common.{◌≡◌, ◌++◌, take}
use Rattle.texts.specs.Lines.{text_of}
use Rattle.cert_text.specs.Text.{cut_lines}
use Rattle.cert_text.proofs.puts.put_cuts.Given as goal

abbrev pub invariant-loop-place : goal.invariant-loop-place
invariant-loop-place l = l.out.items ≡ l.fn.out.items ++ text_of (cut_lines 0 (take l.place l.cuts))
