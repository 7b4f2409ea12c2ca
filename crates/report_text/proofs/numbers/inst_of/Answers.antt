use Rattle.report_text.proofs.Columns.{inst_is}
use Rattle.report_text.proofs.numbers.inst_of.Goals as goal

pub returns : goal.returns
returns c = inst_is c.args.l_side c.args.w_side c.args.long c.args.short c.new.result c.new.ensures.accepted c.new.ensures.numbers
