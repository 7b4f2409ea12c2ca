use Rattle.std.proofs.Common.{◌≡◌, drop}
use Rattle.texts.specs.Lines.{whole_lines, unfinished}
use Rattle.listing_text.specs.Lines.{unmet_from}
use Rattle.listing_text.proofs.Loops.{with_front}
use Rattle.listing_text.proofs.stack_lines.unmet_at.Given as goal

abbrev pub invariant-loop-rule : goal.invariant-loop-rule
invariant-loop-rule l = record {
  read : with_front l.unmet.items (unmet_from (drop l.rule-index l.rules) (whole_lines l.rest)) ≡ unmet_from l.rules (whole_lines l.bytes);
  rest : unfinished l.rest ≡ unfinished l.bytes;
}
