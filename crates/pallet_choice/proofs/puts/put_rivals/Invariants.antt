use Rattle.std.proofs.Common.{◌≡◌, ◌++◌, take, map}
use Rattle.texts.specs.Lines.{text_of}
use Rattle.pallet_choice.specs.Text.{bound_told, rival_line}
use Rattle.pallet_choice.proofs.puts.put_rivals.Given as goal

abbrev pub invariant-loop-score : goal.invariant-loop-score
invariant-loop-score l = l.out.items ≡ l.fn.out.items ++ text_of (map rival_line (map bound_told (take l.score-index l.rivals)))
