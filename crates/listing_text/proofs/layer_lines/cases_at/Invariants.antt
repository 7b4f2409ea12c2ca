use Rattle.std.proofs.Common.{◌≡◌, ◌-◌}
use Rattle.texts.specs.Lines.{whole_lines, unfinished}
use Rattle.listing_text.specs.Lines.{cases_from}
use Rattle.listing_text.proofs.Loops.{with_front}
use Rattle.listing_text.proofs.layer_lines.cases_at.Given as goal

abbrev pub invariant-loop-place : goal.invariant-loop-place
invariant-loop-place l = record {
  read : with_front l.spots.items (cases_from (l.count - l._place) (whole_lines l.rest)) ≡ cases_from l.count (whole_lines l.bytes);
  rest : unfinished l.rest ≡ unfinished l.bytes;
}
