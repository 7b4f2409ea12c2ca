use Rattle.std.proofs.Common.{ap, refl, rules}
use Rattle.std.specs.Prelude.{IsErrOf}
use Rattle.run_parts.specs.declared.parts.WriteStop.TheVariants.{Memory as memory_stop}
use Rattle.run_parts.specs.declared.codes.Code.TheVariants.{Done}
use Rattle.report_reading.specs.Reading.{HasReport}
use Rattle.report_reading.proofs.NoReports.{none-at-end}
use Rattle.report_reading.proofs.Today.{in-range-today}
use Rattle.page_text.specs.Page.{page_of}
use Rattle.page_mode.proofs.Reports.{page-none, page-read, page-memory, paged, top-shows, page-shows}
use Rattle.page_mode.proofs.pages.page.Goals as goal

pub write_page-requires-clause-ranges : goal.write_page-requires-clause-ranges
write_page-requires-clause-ranges g c = in-range-today c.in-Ok-entries_of.entries c.in-Ok-entries_of.ensures.found.is_report.reported

pub returns-in-Err-entries_of-clause-ran : goal.returns-in-Err-entries_of-clause-ran
returns-in-Err-entries_of-clause-ran g c = page-none _ _ _ _ _ (none-at-end _ _ _ _ _ _ c.deref.ensures.value c.in-Ok.ensures.read c.in-Err-entries_of.ensures.none)

pub returns-in-Ok-write_page-clause-ran : goal.returns-in-Ok-write_page-clause-ran
returns-in-Ok-write_page-clause-ran g c =
    let r = c.in-Ok-entries_of.entries in
    let bytes = c.in-Ok.bytes.items in
    let has : HasReport bytes r = search rules in
    let wrote = c.in-Ok-write_page.ensures.ok in
    rw (c.plain.ensures.code, c.plain.ensures.line) (page-read _ _ Done _ _ bytes (page_of r.entries) c.in-Ok.ensures.read (ap (λ p. p.taken) wrote) c.write_page.ensures.later
    (λ ended calm. (ended, paged bytes r has, refl)))

pub returns-in-Ok-write_page-clause-untouched : goal.returns-in-Ok-write_page-clause-untouched
returns-in-Ok-write_page-clause-untouched g c = λ other.
    page-shows g.K.Sink.past c.args.sink.now c.write_page.new.sink c.in-Ok-entries_of.entries.entries c.in-Ok-write_page.ensures.ok

pub returns-clause-ran : goal.returns-clause-ran
returns-clause-ran g c =
    let r = c.in-Ok-entries_of.entries in
    let bytes = c.in-Ok.bytes.items in
    let has : HasReport bytes r = search rules in
    let failed : IsErrOf c.write_page.result memory_stop = search rules in
    rw (c.plain-in-Err-Memory.ensures.code, c.plain-in-Err-Memory.ensures.line) (page-memory g.K.Sink.past _ _ _ _ bytes r c.in-Ok.ensures.read has c.write_page.ensures.later (c.write_page.ensures.memory failed))

pub returns-clause-untouched : goal.returns-clause-untouched
returns-clause-untouched g c = λ other.
    let failed : IsErrOf c.write_page.result memory_stop = search rules in
    top-shows g.K.Sink.past c.args.sink.now c.write_page.new.sink c.in-Ok-entries_of.entries.entries (c.write_page.ensures.memory failed)
