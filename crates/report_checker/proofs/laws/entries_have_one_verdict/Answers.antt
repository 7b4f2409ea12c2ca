use Rattle.report_checker.proofs.OneVerdict.{one-verdict}
use Rattle.report_checker.proofs.laws.entries_have_one_verdict.Goals as goal

pub returns : goal.returns
returns c = one-verdict
