use Rattle.std.proofs.Common.{◌∙◌}
use Rattle.texts.specs.Lines.{whole_lines}
use Rattle.pallet_choice.specs.Lines.{rivals_from}
use Rattle.pallet_choice.proofs.RivalLines.{goes_on, is_done, shorter}
use Rattle.pallet_choice.proofs.tails.rivals_at.Goals as goal

pub loop-rival-smaller : goal.loop-rival-smaller
loop-rival-smaller c = shorter c.loop-rival.above (whole_lines c.loop-rival.rest.now) (whole_lines c.in-Some.after.now) c.in-Some.rival c.in-Some.ensures.read

pub loop-rival-preserved : goal.loop-rival-preserved
loop-rival-preserved c = record {
  read = rw c.in_ok-push.ensures.items (goes_on c.loop-rival.rivals.items c.loop-rival.above (whole_lines c.loop-rival.rest.now) (whole_lines c.in-Some.after.now) c.in-Some.rival (rivals_from 0 (whole_lines c.args.bytes.now)) c.in-Some.ensures.read c.loop-rival.invariant.read);
  rest = c.in-Some.ensures.rest ∙ c.loop-rival.invariant.rest;
}

pub returns-clause-read : goal.returns-clause-read
returns-clause-read c = is_done c.loop-rival.rivals.items c.loop-rival.above (whole_lines c.loop-rival.rest.now) (rivals_from 0 (whole_lines c.args.bytes.now)) c.in_default.ensures.read c.loop-rival.invariant.read
