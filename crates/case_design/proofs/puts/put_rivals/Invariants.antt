use Rattle.std.proofs.Common.{◌≡◌, ◌++◌, take, map}
use Rattle.texts.specs.Lines.{text_of}
use Rattle.case_design.specs.Text.{rival_line}
use Rattle.case_design.proofs.puts.put_rivals.Given as goal

abbrev pub invariant-loop-rival : goal.invariant-loop-rival
invariant-loop-rival l = l.out.items ≡ l.fn.out.items ++ text_of (map rival_line (take l.rival-index l.rivals))
