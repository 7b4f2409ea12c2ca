use Rattle.report_text.proofs.TextLengths.{report_short}
use Rattle.report_text.proofs.laws.reports_are_short.Goals as goal

pub returns : goal.returns
returns c = report_short
