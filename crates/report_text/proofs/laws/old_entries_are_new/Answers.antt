use Rattle.report_text.proofs.OldForm.{entry_new}
use Rattle.report_text.proofs.laws.old_entries_are_new.Goals as goal

pub returns : goal.returns
returns c = entry_new
