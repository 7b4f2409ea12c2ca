use Rattle.line_search.proofs.StartSteps.{searched-has}
use Rattle.line_search.proofs.lines.has.Goals as goal

pub returns : goal.returns
returns c = rw c.is_ok.ensures.value (searched-has c.args.places.now c.args.place c.binary_search.result c.requires c.binary_search.ensures.position)
