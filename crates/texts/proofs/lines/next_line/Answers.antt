use Rattle.std.proofs.Common.{sym}
use Rattle.texts.proofs.LineEnds.{takes_line, takes_none}
use Rattle.texts.proofs.lines.next_line.Goals as goal

pub returns-in-Some : goal.returns-in-Some
returns-in-Some c = takes_line c.args.bytes.now c.in-Some.at (sym c.in-Some.ensures)

pub returns-in-None : goal.returns-in-None
returns-in-None c = takes_none c.args.bytes.now (sym c.in-None.ensures)
