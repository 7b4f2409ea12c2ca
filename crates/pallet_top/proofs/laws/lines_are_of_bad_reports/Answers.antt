use Rattle.pallet_top.proofs.Sentences.{lines}
use Rattle.pallet_top.proofs.laws.lines_are_of_bad_reports.Goals as goal

pub returns : goal.returns
returns c = lines
