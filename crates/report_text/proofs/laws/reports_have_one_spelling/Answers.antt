use Rattle.report_text.proofs.ReportBytes.{reports_one_spelling}
use Rattle.report_text.proofs.laws.reports_have_one_spelling.Goals as goal

pub returns : goal.returns
returns c = reports_one_spelling
