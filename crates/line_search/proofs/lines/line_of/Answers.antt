use Rattle.line_search.proofs.StartSteps.{no-line-of}
use Rattle.line_search.proofs.lines.line_of.Goals as goal

pub returns-in-Some-clause-none : goal.returns-in-Some-clause-none
returns-in-Some-clause-none c =
    no-line-of c.args.starts.now.axis c.args.starts.now.inst c.args.start c.in-Some.end c.last_before.result c.in-Some.ensures.some c.last_before.ensures.none

pub returns-in-None-clause-none : goal.returns-in-None-clause-none
returns-in-None-clause-none c line h = c.in-None.ensures.none h.end h.first
