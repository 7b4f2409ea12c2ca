-- What `get_cert` answers.
use Rattle.std.specs.Prelude.{◌≡◌, ℕ, Result, Ok, Err}
use Rattle.weightings.specs.declared.certs.Cert.{Cert}
use Rattle.cert_text.specs.declared.lines.CertFault.{CertFault}
use Rattle.cert_text.specs.declared.lines.CertFault.TheVariants as faults

abbrev pub IfLine : {X : Type 0} → Result X CertFault → (ℕ → Type 0) → Type 0
IfLine (Ok x) P = Unit {0}
IfLine (Err faults.Memory) P = Unit {0}
IfLine (Err (faults.Line k)) P = P k

-- this certificate and this length, unless memory was refused
abbrev pub GivesCert : Cert → ℕ → Result (Cert × ℕ) CertFault → Type 0
GivesCert c n (Ok x) = (x.0 ≡ c) × (x.1 ≡ n)
GivesCert c n (Err faults.Memory) = Unit {0}
GivesCert c n (Err (faults.Line k)) = ⊥
