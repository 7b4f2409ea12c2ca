use Rattle.std.proofs.Common.{◌≡◌, ◌-◌, ◌+◌}
use Rattle.texts.specs.Lines.{whole_lines, unfinished}
use Rattle.listing_text.specs.Lines.{listed_from}
use Rattle.listing_text.proofs.Loops.{with_front}
use Rattle.listing_text.proofs.layer_lines.listed_at.Given as goal

abbrev pub invariant-loop-place : goal.invariant-loop-place
invariant-loop-place l = record {
  read : with_front l.layers.items (listed_from l.count (l.total - l.place) (l.place + 1) (whole_lines l.rest)) ≡ listed_from l.count l.total 1 (whole_lines l.bytes);
  rest : unfinished l.rest ≡ unfinished l.bytes;
}
