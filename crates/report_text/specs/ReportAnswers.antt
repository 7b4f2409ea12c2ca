-- What `check_text` and the entries of a report answer.
use Rattle.std.specs.Prelude.{◌≡◌, ℕ, List, [], ◌∷◌, Option, Some, None, Result, Ok, Err}
use Rattle.plan_memory.specs.declared.Memory.{Memory}
use Rattle.plan_entries.specs.declared.entries.Entry.{Entry}
use Rattle.cert_text.specs.declared.forms.Form.{Form}
use Rattle.report_text.specs.Reports.{Report, report_text, IsReport}
use Rattle.report_text.specs.declared.reports.ReportFault.{ReportFault}
use Rattle.report_text.specs.declared.reports.ReportFault.TheVariants as faults

-- the bytes are the text of this report
pub record IsReportIn (bytes : List ℕ) (r : Report) : Type 0 where
  pub reported : IsReport r
  pub text : bytes ≡ report_text r.form r.entries

-- this report, unless memory was refused
abbrev pub GivesReport : Form → List Entry → Result Report ReportFault → Type 0
GivesReport form entries (Ok r) = (r.form ≡ form) × (r.entries ≡ entries)
GivesReport form entries (Err faults.Memory) = Unit {0}
GivesReport form entries (Err (faults.Line k)) = ⊥

abbrev pub IfReportLine : {X : Type 0} → Result X ReportFault → (ℕ → Type 0) → Type 0
IfReportLine (Ok x) P = Unit {0}
IfReportLine (Err faults.Memory) P = Unit {0}
IfReportLine (Err (faults.Line k)) P = P k

-- the first entry, which then is no more among those that are left; without memory nothing is changed
abbrev pub Yields : Report → Report → Result (Option Entry) Memory → Type 0
Yields old new (Ok (Some e)) = (old.entries ≡ e ∷ new.entries) × (new.form ≡ old.form)
Yields old new (Ok None) = (old.entries ≡ []) × (new ≡ old)
Yields old new (Err m) = new ≡ old
