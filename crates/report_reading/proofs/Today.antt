-- The entries of a report of either form are within the ranges of today's.
use Rattle.std.proofs.Common.{ℕ, ◌+◌, List, [], ◌∷◌}
use Rattle.std.specs.List.{All}
use Rattle.std.proofs.lemmas.List.Elements.{All-nil, All-cons}
use Rattle.cert_text.specs.declared.forms.Form.{Form}
use Rattle.cert_text.specs.declared.forms.Form.TheVariants.{One, Two}
use Rattle.plan_entries.specs.declared.entries.Entry.{Entry}
use Rattle.plan_entries.specs.Ranges.{IsInRange}
use Rattle.report_text.specs.Reports.{Report, AreNumberedFrom, AreReported, IsReport}
use Rattle.report_text.proofs.OldForm.{report_new}

ranges : (n : ℕ) (es : List Entry) → AreNumberedFrom Two n es → All (IsInRange Two) es
ranges n [] are = All-nil (IsInRange Two)
ranges n (e ∷ es) are = All-cons (IsInRange Two) e es are.0.1 (ranges (n + 1) es are.1)

pub report-today : (form : Form) (es : List Entry) → AreReported form es → AreReported Two es
report-today One es are = report_new es are
report-today Two es are = are

pub in-range-today : (r : Report) → IsReport r → All (IsInRange Two) r.entries
in-range-today r are = ranges 1 r.entries (report-today r.form r.entries are).numbered
