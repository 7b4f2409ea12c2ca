use Rattle.report_text.proofs.EntryReaders.{entry_reads}
use Rattle.report_text.proofs.laws.entries_are_read.Goals as goal

pub returns : goal.returns
returns c = entry_reads
