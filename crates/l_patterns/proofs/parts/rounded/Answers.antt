use Rattle.l_patterns.proofs.PartLemmas.{fits-rounded}
use Rattle.l_patterns.proofs.parts.rounded.Goals as goal

pub returns-clause-fits : goal.returns-clause-fits
returns-clause-fits c = fits-rounded c.args.q c.args.r c.round_each.result c.requires.order c.requires.wide c.requires.tall c.round_each.ensures
