use Rattle.report_text.proofs.OldForm.{report_new}
use Rattle.report_text.proofs.laws.old_reports_are_new.Goals as goal

pub returns : goal.returns
returns c = report_new
