use Rattle.contact_rules.proofs.SpanSteps.{free-from}
use Rattle.contact_rules.proofs.spans.free_from.Goals as goal

pub returns : goal.returns
returns c = λ n.
    rw c.saturating_sub.ensures (free-from c.args.spans.now c.args.side c.args.row n c.stop.result c.requires.spans c.requires.row c.stop.ensures)
