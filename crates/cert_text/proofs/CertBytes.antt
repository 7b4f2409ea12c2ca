-- What reading a certificate says of the bytes.
use Rattle.std.proofs.Common.{◌≡◌, ℕ, List, ◌++◌, Ok, Err}
use Rattle.texts.specs.Lines.{whole_lines, unfinished}
use Rattle.texts.proofs.Bytes.{Got, got, same_value, no_fault, Stopped, stopped}
use Rattle.weightings.specs.declared.certs.Cert.{Cert}
use Rattle.cert_text.specs.Lines.{cert_at}
use Rattle.cert_text.specs.Ranges.{InRange}
use Rattle.cert_text.specs.Text.{cert_lines, cert_text}
use Rattle.cert_text.specs.declared.forms.Form.{Form}
use Rattle.cert_text.proofs.CertReaders.{cert_reads, cert_plain, few_lines}

pub got_cert : (form : Form) (bytes rest : List ℕ) (c : Cert) → cert_at form (whole_lines bytes) ≡ Ok (c, whole_lines rest) → unfinished rest ≡ unfinished bytes → Got cert_lines (InRange form) (cert_at form) (cert_reads form) (cert_plain form) bytes rest c
got_cert form = got cert_lines (InRange form) (cert_at form) (cert_reads form) (cert_plain form)

pub same_cert : (form : Form) (bytes rest after : List ℕ) (c d : Cert) → InRange form c → bytes ≡ cert_text c ++ rest → cert_at form (whole_lines bytes) ≡ Ok (d, whole_lines after) → d ≡ c
same_cert form = same_value cert_lines (InRange form) (cert_at form) (cert_reads form) (cert_plain form)

pub no_cert_fault : (form : Form) (bytes rest : List ℕ) (c : Cert) (n : ℕ) → InRange form c → bytes ≡ cert_text c ++ rest → cert_at form (whole_lines bytes) ≡ Err n → ⊥
no_cert_fault form = no_fault cert_lines (InRange form) (cert_at form) (cert_reads form) (cert_plain form)

pub cert_stopped : (form : Form) (bytes : List ℕ) (left : ℕ) → cert_at form (whole_lines bytes) ≡ Err left → Stopped cert_lines (InRange form) (cert_at form) (cert_reads form) (cert_plain form) bytes 4003 left
cert_stopped form bytes left e = stopped cert_lines (InRange form) (cert_at form) (cert_reads form) (cert_plain form) bytes 4003 left (few_lines form) e
