-- How long the text of a report can be.
use Rattle.std.specs.Prelude.{◌≡◌, ℕ, ◌≤◌, ⊤, List, length, All}
use Rattle.weightings.specs.declared.kinds.Weighting.TheVariants as weightings
use Rattle.weightings.specs.declared.certs.Cert.{Cert}
use Rattle.weightings.specs.declared.certs.Cert.TheVariants as certs
use Rattle.cert_text.specs.Text.{cert_text}
use Rattle.plan_entries.specs.declared.entries.Entry.{Entry}
use Rattle.plan_entries.specs.declared.entries.Entry.TheVariants.{Planned, Refused}

-- a certificate has no table of weights, or a tree of one mark
abbrev pub IsTableOrTree : Cert → Type 0
IsTableOrTree (certs.Weighted weightings.Area tree) = ⊤
IsTableOrTree (certs.Weighted (weightings.Colour k c) tree) = ⊤
IsTableOrTree (certs.Weighted (weightings.Comb p a r b) tree) = ⊤
IsTableOrTree (certs.Weighted (weightings.Table t) tree) = length tree ≡ 1
IsTableOrTree (certs.Weighted (weightings.Lines t) tree) = length tree ≡ 1
IsTableOrTree (certs.Strip cuts) = ⊤
IsTableOrTree certs.GivenArea = ⊤

-- the most bytes of such a certificate's text
abbrev pub short_length : ℕ
short_length = 505000

-- the text of the certificate of a plan is so short
abbrev pub HasShortCert : Entry → Type 0
HasShortCert (Planned p) = length (cert_text p.cert) ≤ short_length
HasShortCert (Refused n fault) = ⊤

abbrev pub HaveShortCerts : List Entry → Type 0
HaveShortCerts entries = All HasShortCert entries
