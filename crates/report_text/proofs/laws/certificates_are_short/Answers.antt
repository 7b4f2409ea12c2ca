use Rattle.report_text.proofs.TextLengths.{cert_short}
use Rattle.report_text.proofs.laws.certificates_are_short.Goals as goal

pub returns : goal.returns
returns c = cert_short
