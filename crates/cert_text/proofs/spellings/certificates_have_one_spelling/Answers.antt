use Rattle.texts.proofs.Bytes.{has_one_spelling}
use Rattle.cert_text.specs.Lines.{cert_at}
use Rattle.cert_text.specs.Ranges.{InRange}
use Rattle.cert_text.specs.Text.{cert_lines}
use Rattle.cert_text.proofs.CertReaders.{cert_reads, cert_plain}
use Rattle.cert_text.proofs.spellings.certificates_have_one_spelling.Goals as goal

pub returns : goal.returns
returns c = λ form. has_one_spelling cert_lines (InRange form) (cert_at form) (cert_reads form) (cert_plain form)
