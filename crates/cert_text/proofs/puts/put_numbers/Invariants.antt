use Rattle.std.proofs.Common.{◌≡◌, ◌++◌, take}
use Rattle.cert_text.proofs.Pieces.{behind_spaces}
use Rattle.cert_text.proofs.puts.put_numbers.Given as goal

abbrev pub invariant-loop-number : goal.invariant-loop-number
invariant-loop-number l = l.out.items ≡ l.fn.out.items ++ behind_spaces (take l.number-index l.numbers)
