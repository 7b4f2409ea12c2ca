use Rattle.std.proofs.Common.{sym, ◌∙◌}
use Rattle.texts.proofs.LineEnds.{count_ends}
use Rattle.texts.proofs.lines.count_lines.Goals as goal

pub returns : goal.returns
returns c = c.count_of.ensures ∙ sym (count_ends c.args.bytes.now)
