use Rattle.std.proofs.Common.{◌≡◌, ◌∙◌, ◌-◌, sym, ap, refl, arith, Ok, ℕ}
use Rattle.std.proofs.lemmas.Result.{err_from_is_err_and}
use Rattle.texts.specs.Grammar.{◌>>=◌}
use Rattle.texts.specs.Lines.{whole_lines}
use Rattle.plan_entries.specs.Ranges.{most_entries}
use Rattle.report_text.specs.ReportLines.{entries_from, counted, entries_counted}
use Rattle.report_text.proofs.ReportLoop.{starts, goes_on, ends_next, ends_entry, is_done, ends_last, is_last}
use Rattle.report_text.proofs.reports.count_entries.Goals as goal

pub loop-before-init : goal.loop-before-init
unfolding entries_counted
loop-before-init c =
    let f = c.args.form in
    let ls = whole_lines c.args.bytes.now in
    let n : most_entries c.args.form - 0 ≡ most_entries c.args.form = omega arith in
    record { read = starts (entries_from f (most_entries f - 0) 0 ls) ∙ ap (λ (k : ℕ). entries_from f k 0 ls >>= counted) n; rest = refl }

pub returns-in_err-next-clause-read : goal.returns-in_err-next-clause-read
returns-in_err-next-clause-read c =
    let p = err_from_is_err_and c.from_residual.result c.from_residual.ensures.1 in
    let v = c.most_entries-most.ensures.value in
    let t = c.loop-before-test.true in
    rw (p.1, p.2) (ends_next c.in_err-next.field-0.0.count c.args.form (most_entries c.args.form) c.loop-before.before (whole_lines c.loop-before.rest.now) (entries_counted c.args.form (whole_lines c.args.bytes.now)) (omega arith) c.in_err-next.ensures.read c.loop-before.invariant.read)

pub returns-in-Done-clause-read : goal.returns-in-Done-clause-read
returns-in-Done-clause-read c =
    let v = c.most_entries-most.ensures.value in
    let t = c.loop-before-test.true in
    is_done c.args.form (most_entries c.args.form) c.loop-before.before (whole_lines c.loop-before.rest.now) (whole_lines c.in_ok-next.after.now) (entries_counted c.args.form (whole_lines c.args.bytes.now)) (omega arith) (rw c.in-Done.is at c.in_ok-next.ensures.read) c.loop-before.invariant.read

pub returns-in_err-_entry-in-More-clause-read : goal.returns-in_err-_entry-in-More-clause-read
returns-in_err-_entry-in-More-clause-read c =
    let p = err_from_is_err_and c.from_residual-in_err-_entry-in-More.result c.from_residual-in_err-_entry-in-More.ensures.1 in
    let v = c.most_entries-most.ensures.value in
    let t = c.loop-before-test.true in
    rw (p.1, p.2) (ends_entry c.in_err-_entry-in-More.field-0.0 c.args.form (most_entries c.args.form) c.loop-before.before (whole_lines c.loop-before.rest.now) (whole_lines c.in_ok-next.after.now) (entries_counted c.args.form (whole_lines c.args.bytes.now)) (omega arith) (rw c.in-More.is at c.in_ok-next.ensures.read) c.in_err-_entry-in-More.ensures.read c.loop-before.invariant.read)

pub loop-before-preserved : goal.loop-before-preserved
loop-before-preserved c =
    let v = c.most_entries-most.ensures.value in
    let t = c.loop-before-test.true in
    record {
      read = goes_on c.args.form (most_entries c.args.form) c.loop-before.before (whole_lines c.loop-before.rest.now) (whole_lines c.in_ok-next.after.now) (whole_lines c.in_ok-_entry-in-More.behind.now) c.in_ok-_entry-in-More._entry (entries_counted c.args.form (whole_lines c.args.bytes.now)) (omega arith) (rw c.in-More.is at c.in_ok-next.ensures.read) c.in_ok-_entry-in-More.ensures.read c.loop-before.invariant.read;
      rest = c.in_ok-_entry-in-More.ensures.rest ∙ c.in_ok-next.ensures.rest ∙ c.loop-before.invariant.rest;
    }

pub returns-in_err-rest-clause-read : goal.returns-in_err-rest-clause-read
returns-in_err-rest-clause-read c =
    let p = err_from_is_err_and c.from_residual-in_err-rest.result c.from_residual-in_err-rest.ensures.1 in
    let v = c.most_entries-most.ensures.value in
    let t = c.loop-before-test.false in
    let e = c.loop-before.auto.before-end in
    rw (p.1, p.2) (ends_last c.in_err-rest.field-0.0.count c.args.form (most_entries c.args.form) c.loop-before.before (whole_lines c.loop-before.rest.now) (entries_counted c.args.form (whole_lines c.args.bytes.now)) (omega arith) (rw v at c.in_err-rest.ensures.read) c.loop-before.invariant.read)

pub returns-clause-read : goal.returns-clause-read
returns-clause-read c =
    let v = c.most_entries-most.ensures.value in
    let t = c.loop-before-test.false in
    let e = c.loop-before.auto.before-end in
    is_last c.args.form (most_entries c.args.form) c.loop-before.before _ (whole_lines c.loop-before.rest.now) (whole_lines c.in_ok-rest.rest.now) (entries_counted c.args.form (whole_lines c.args.bytes.now)) (omega arith) (rw v at c.in_ok-rest.ensures.read) c.loop-before.invariant.read ∙ ap (λ (n : ℕ). Ok (n, whole_lines c.in_ok-rest.rest.now)) (sym v)
