use Rattle.std.proofs.Common.{ap, refl, rules}
use Rattle.std.specs.Prelude.{IsErrOf}
use Rattle.run_parts.specs.declared.parts.WriteStop.TheVariants.{Memory as memory_stop}
use Rattle.run_parts.specs.declared.codes.Code.TheVariants.{Done}
use Rattle.cert_text.specs.declared.forms.Form.TheVariants.{Two}
use Rattle.report_text.specs.Reports.{report_text}
use Rattle.report_reading.specs.Reading.{HasReport}
use Rattle.report_reading.proofs.NoReports.{none-at-end}
use Rattle.check_mode.proofs.NoReports.{upgrade-none}
use Rattle.check_mode.proofs.Reports.{upgrade-read, upgrade-memory, upgraded}
use Rattle.check_mode.proofs.Untouched.{head-shows}
use Rattle.report_reading.proofs.Today.{in-range-today}
use Rattle.check_mode.proofs.upgrades.upgrade.Goals as goal

pub write_report-requires : goal.write_report-requires
write_report-requires g c = in-range-today c.in-Ok-entries_of.entries c.in-Ok-entries_of.ensures.found.is_report.reported

pub returns-in-Err-entries_of-clause-ran : goal.returns-in-Err-entries_of-clause-ran
returns-in-Err-entries_of-clause-ran g c = upgrade-none _ _ _ _ _ (none-at-end _ _ _ _ _ _ c.deref.ensures.value c.in-Ok.ensures.read c.in-Err-entries_of.ensures.none)

pub returns-in-Ok-write_report-clause-ran : goal.returns-in-Ok-write_report-clause-ran
returns-in-Ok-write_report-clause-ran g c =
    let r = c.in-Ok-entries_of.entries in
    let bytes = c.in-Ok.bytes.items in
    let has : HasReport bytes r = search rules in
    let wrote = c.in-Ok-write_report.ensures.ok in
    rw (c.plain.ensures.code, c.plain.ensures.line) (upgrade-read _ _ Done _ _ bytes (report_text Two r.entries) c.in-Ok.ensures.read (ap (λ p. p.taken) wrote) c.write_report.ensures.later
    (λ ended calm. (ended, upgraded bytes r has, refl)))

pub returns-clause-ran : goal.returns-clause-ran
returns-clause-ran g c =
    let r = c.in-Ok-entries_of.entries in
    let bytes = c.in-Ok.bytes.items in
    let has : HasReport bytes r = search rules in
    let failed : IsErrOf c.write_report.result memory_stop = search rules in
    rw (c.plain-in-Err-Memory.ensures.code, c.plain-in-Err-Memory.ensures.line) (upgrade-memory g.K.Sink.past _ _ _ _ bytes r c.in-Ok.ensures.read has c.write_report.ensures.later (c.write_report.ensures.memory failed))

pub returns-clause-untouched : goal.returns-clause-untouched
returns-clause-untouched g c = λ other.
    let failed : IsErrOf c.write_report.result memory_stop = search rules in
    head-shows g.K.Sink.past c.args.sink.now c.write_report.new.sink c.in-Ok-entries_of.entries.entries (c.write_report.ensures.memory failed)
