-- A run that read a report to its end, as a run of each mode, and what was written of it.
use Rattle.std.proofs.Common.{◌≡◌, ◌≤◌, ◌⊎◌, ◌∙◌, ℕ, true, List, [], ◌++◌, ap, arith, inl, inr, refl, sym}
use Rattle.std.proofs.lemmas.List.{append-nil}
use Rattle.plan_io.specs.Streams.{Intake, Outlet, at_end}
use Rattle.run_parts.specs.Written.{Wrote, WrotePart}
use Rattle.run_parts.specs.declared.codes.Code.{Code}
use Rattle.run_parts.specs.declared.codes.Code.TheVariants.{Memory}
use Rattle.cert_text.specs.declared.forms.Form.TheVariants.{Two}
use Rattle.plan_entries.specs.declared.entries.Entry.{Entry}
use Rattle.report_text.specs.Reports.{Report, report_text, head_text, entries_text}
use Rattle.report_checker.specs.declared.verdicts.Verdict.{Verdict}
use Rattle.report_reading.specs.Reading.{HasReport}
use Rattle.check_mode.specs.Verdicts.{AreFirstVerdicts, verdict_lines}
use Rattle.check_mode.specs.Checks.{CheckMeans, CheckRan, JudgedInPart, JudgedFirst, begun_text}
use Rattle.check_mode.specs.Upgrades.{UpgradeMeans, UpgradeRan, Upgraded}
use Rattle.check_mode.proofs.VerdictFacts.{begun-due}
use Rattle.report_reading.proofs.Today.{report-today}

pub check-read : (from : Intake) (to : Outlet) (code : Code) (from' : Intake) (to' : Outlet) (bytes wrote : List ℕ)
    → from' ≡ at_end from bytes → to'.taken ≡ to.taken ++ wrote → to.faults ≤ to'.faults
    → (from'.ended ≡ true → from'.faults ≡ from.faults → CheckMeans code 0 bytes wrote from from' to to') → CheckRan from to code 0 from' to'
check-read from to code from' to' bytes wrote past taken later means =
    let same = ap (λ p. p.faults) past in
    record {
      read = bytes;
      wrote = wrote;
      given = ap (λ p. p.given) past;
      taken = taken;
      source_later = omega (arith, same);
      sink_later = later;
      means = means (ap (λ p. p.ended) past) same;
    }

pub upgrade-read : (from : Intake) (to : Outlet) (code : Code) (from' : Intake) (to' : Outlet) (bytes wrote : List ℕ)
    → from' ≡ at_end from bytes → to'.taken ≡ to.taken ++ wrote → to.faults ≤ to'.faults
    → (from'.ended ≡ true → from'.faults ≡ from.faults → UpgradeMeans code 0 bytes wrote from from' to to') → UpgradeRan from to code 0 from' to'
upgrade-read from to code from' to' bytes wrote past taken later means =
    let same = ap (λ p. p.faults) past in
    record {
      read = bytes;
      wrote = wrote;
      given = ap (λ p. p.given) past;
      taken = taken;
      source_later = omega (arith, same);
      sink_later = later;
      means = means (ap (λ p. p.ended) past) same;
    }

pub judged-part : (bytes : List ℕ) (r : Report) (vs : List Verdict) (old new : Outlet) → HasReport bytes r → AreFirstVerdicts r.entries vs → (part : WrotePart old new (begun_text r.entries vs)) → JudgedInPart bytes part.sent
judged-part bytes r vs old new has first part = record {
  report = r;
  has_report = has;
  verdicts = vs;
  are_verdicts = first;
  front = part.front;
  due = λ all are. begun-due r.entries vs all part.sent first part.front are;
}

pub judged-first : (bytes : List ℕ) (r : Report) (vs : List Verdict) → HasReport bytes r → AreFirstVerdicts r.entries vs → JudgedFirst bytes (verdict_lines r.entries vs)
judged-first bytes r vs has first = record { report = r; has_report = has; verdicts = vs; are_verdicts = first; text = refl }

pub upgraded : (bytes : List ℕ) (r : Report) → HasReport bytes r → Upgraded bytes (report_text Two r.entries)
upgraded bytes r has = record { report = r; has_report = has; reported = report-today r.form r.entries has.is_report.reported; text = refl }

-- memory was refused before anything was written, or behind the whole text of some first entries
pub upgrade-memory : {K : Type 0} (past : K → Outlet) (old new : K) (from from' : Intake) (bytes : List ℕ) (r : Report)
    → from' ≡ at_end from bytes → HasReport bytes r → (past old).faults ≤ (past new).faults
    → (new ≡ old) ⊎ ((first : List Entry) × (rest : List Entry) × (r.entries ≡ first ++ rest) × Wrote (past old) (past new) (head_text Two ++ entries_text Two first))
    → UpgradeRan from (past old) Memory 0 from' (past new)
upgrade-memory past old new from from' bytes r is has later (inl same) =
    upgrade-read from (past old) Memory from' (past new) bytes [] is (ap (λ k. (past k).taken) same ∙ sym (append-nil (past old).taken)) later
    (λ ended calm. (inl (ap past same), ap (λ k. (past k).faults) same, calm, omega (arith, has.few_bytes), refl))
upgrade-memory past old new from from' bytes r is has later (inr (first, rest, parts, wrote)) =
    upgrade-read from (past old) Memory from' (past new) bytes (head_text Two ++ entries_text Two first) is (ap (λ p. p.taken) wrote) later
    (λ ended calm. (inr (ended, record { report = r; has_report = has; first = first; rest = rest; parts = parts; text = refl }), ap (λ p. p.faults) wrote, calm, omega (arith, has.few_bytes), refl))
