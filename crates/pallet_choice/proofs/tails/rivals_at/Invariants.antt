use Rattle.std.proofs.Common.{◌≡◌, length}
use Rattle.texts.specs.Lines.{whole_lines, unfinished}
use Rattle.pallet_choice.specs.Lines.{rivals_from}
use Rattle.pallet_choice.proofs.RivalLines.{with_front}
use Rattle.pallet_choice.proofs.tails.rivals_at.Given as goal

abbrev pub invariant-loop-rival : goal.invariant-loop-rival
invariant-loop-rival l = record {
  read : with_front l.rivals.items (rivals_from l.above (whole_lines l.rest)) ≡ rivals_from 0 (whole_lines l.bytes);
  rest : unfinished l.rest ≡ unfinished l.bytes;
}

abbrev pub decreases-loop-rival : goal.decreases-loop-rival
decreases-loop-rival l = length (whole_lines l.rest)
