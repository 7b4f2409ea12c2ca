use Rattle.report_text.proofs.EntryBytes.{entries_one_spelling}
use Rattle.report_text.proofs.laws.entries_have_one_spelling.Goals as goal

pub returns : goal.returns
returns c = entries_one_spelling
