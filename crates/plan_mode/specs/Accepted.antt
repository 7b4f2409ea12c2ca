-- What `check` finds in a report that `plan` wrote.
use Rattle.std.specs.Prelude.{◌<◌, List, length, All}
use Rattle.cert_text.specs.declared.forms.Form.TheVariants.{Two}
use Rattle.plan_entries.specs.declared.entries.Entry.{Entry}
use Rattle.plan_entries.specs.declared.entries.Entry.TheVariants.{Planned, Refused}
use Rattle.report_text.specs.Reports.{report_text, AreReported}
use Rattle.report_checker.specs.declared.verdicts.Verdict.{Verdict}
use Rattle.report_checker.specs.declared.verdicts.Verdict.TheVariants as verdicts
use Rattle.report_checker.specs.Verdicts.{IsVerdict, IsOnlyVerdict}

-- yes of a plan, refused of a row that was refused, and never no
abbrev pub verdict_due : Entry → Verdict
verdict_due (Planned p) = verdicts.Yes
verdict_due (Refused n fault) = verdicts.Refused

-- that verdict is right of the entry, and no other is
abbrev pub IsAcceptedEntry : Entry → Type 0
IsAcceptedEntry e = IsVerdict e (verdict_due e) × IsOnlyVerdict e (verdict_due e)

-- the entries are those of a report, shorter than 160,000,000 bytes, and each is accepted
pub record AreAccepted (entries : List Entry) : Type 0 where
  pub reported : AreReported Two entries
  pub short : length (report_text Two entries) < 160000000
  pub verdicts : All IsAcceptedEntry entries
