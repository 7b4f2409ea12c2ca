use Rattle.std.proofs.Common.{ap, arith, inr, refl, rules}
use Rattle.std.specs.Prelude.{IsErrOf}
use Rattle.run_parts.specs.declared.parts.WriteStop.TheVariants.{Fault as fault_stop, Memory as memory_stop}
use Rattle.run_parts.specs.declared.codes.Code.TheVariants.{WriteFault, Memory}
use Rattle.report_reading.specs.Reading.{HasReport}
use Rattle.check_mode.specs.Verdicts.{verdict_lines}
use Rattle.report_reading.proofs.NoReports.{none-at-end}
use Rattle.check_mode.proofs.NoReports.{check-none}
use Rattle.check_mode.proofs.Reports.{check-read, judged-part, judged-first}
use Rattle.report_reading.proofs.Today.{in-range-today}
use Rattle.check_mode.proofs.checks.check.Goals as goal

pub write_verdicts-requires-clause-ranges : goal.write_verdicts-requires-clause-ranges
write_verdicts-requires-clause-ranges g c κs within = in-range-today c.in-Ok-entries_of.entries c.in-Ok-entries_of.ensures.found.is_report.reported

pub returns-in-Err-clause-ran : goal.returns-in-Err-clause-ran
returns-in-Err-clause-ran g c = check-none _ _ _ _ _ c.in-Err.ensures.none

pub returns-in-Err-entries_of-clause-ran : goal.returns-in-Err-entries_of-clause-ran
returns-in-Err-entries_of-clause-ran g c = check-none _ _ _ _ _ (none-at-end _ _ _ _ _ _ c.deref.ensures.value c.in-Ok.ensures.read c.in-Err-entries_of.ensures.none)

pub returns-in-Err-Fault-clause-ran : goal.returns-in-Err-Fault-clause-ran
returns-in-Err-Fault-clause-ran g c =
    let r = c.in-Ok-entries_of.entries in
    let bytes = c.in-Ok.bytes.items in
    let has : HasReport bytes r = search rules in
    let failed : IsErrOf c.write_verdicts.result fault_stop = search rules in
    let (vs, first, part) = c.write_verdicts.ensures.part failed in
    rw (c.plain-in-Err-Fault.ensures.code, c.plain-in-Err-Fault.ensures.line) (check-read _ _ WriteFault _ _ bytes part.sent c.in-Ok.ensures.read part.wrote c.write_verdicts.ensures.later
    (λ ended same. (ended, judged-part bytes r vs _ _ has first part, c.write_verdicts.ensures.rose failed, refl)))

pub returns-clause-ran : goal.returns-clause-ran
returns-clause-ran g c =
    let r = c.in-Ok-entries_of.entries in
    let bytes = c.in-Ok.bytes.items in
    let has : HasReport bytes r = search rules in
    let failed : IsErrOf c.write_verdicts.result memory_stop = search rules in
    let (vs, first, wrote) = c.write_verdicts.ensures.memory failed in
    rw (c.plain-in-Err-Memory.ensures.code, c.plain-in-Err-Memory.ensures.line) (check-read _ _ Memory _ _ bytes (verdict_lines r.entries vs) c.in-Ok.ensures.read (ap (λ p. p.taken) wrote) c.write_verdicts.ensures.later
    (λ ended same. (inr (ended, judged-first bytes r vs has first), ap (λ p. p.faults) wrote, same, omega (arith, has.few_bytes), refl)))
