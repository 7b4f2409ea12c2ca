use Rattle.report_text.proofs.ReportBytes.{report_text_is}
use Rattle.report_text.proofs.laws.reports_are_lines.Goals as goal

pub returns : goal.returns
returns c = report_text_is
