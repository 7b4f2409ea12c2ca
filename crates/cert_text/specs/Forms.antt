-- What the two forms of certificate texts differ in.
use Rattle.std.specs.Prelude.{ℕ, Bool, true, false}
use Rattle.cert_text.specs.declared.forms.Form.{Form}
use Rattle.cert_text.specs.declared.forms.Form.TheVariants.{One, Two}

-- the most cuts of a strip certificate
abbrev pub most_cuts : Form → ℕ
most_cuts One = 402
most_cuts Two = 1002

-- a weighting may be a table
abbrev pub has_tables : Form → Bool
has_tables One = false
has_tables Two = true
