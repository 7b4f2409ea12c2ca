use Rattle.std.proofs.Common.{◌∙◌}
use Rattle.std.proofs.lemmas.List.Sorted.{searched}
use Rattle.line_tables.proofs.LineSteps.{line_at-searched, rising-le}
use Rattle.line_tables.proofs.lines.place_of.Goals as goal

pub returns : goal.returns
returns c =
    let lines = c.args.lines.now in
    c.ok.ensures.value ∙ line_at-searched lines c.args.place c.binary_search.result c.requires.rising (searched lines c.args.place c.binary_search.result c.binary_search.ensures.position (λ i j le lt. rising-le lines i j 0 c.requires.rising le lt))
