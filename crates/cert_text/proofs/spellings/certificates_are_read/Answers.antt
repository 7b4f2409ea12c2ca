use Rattle.cert_text.proofs.CertReaders.{cert_reads}
use Rattle.cert_text.proofs.spellings.certificates_are_read.Goals as goal

pub returns : goal.returns
returns c = λ form. cert_reads form
