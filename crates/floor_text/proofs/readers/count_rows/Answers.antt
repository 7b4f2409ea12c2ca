use Rattle.std.proofs.Common.{◌∙◌, sym, arith}
use Rattle.std.proofs.lemmas.Result.{err_from_is_err_and}
use Rattle.texts.specs.Lines.{whole_lines}
use Rattle.floor_text.specs.Lines.{rows_counted}
use Rattle.floor_text.proofs.RowLoop.{goes_on, ends_row, none_follows, is_last}
use Rattle.floor_text.proofs.readers.count_rows.Goals as goal

pub returns-then-not-entry_follows-clause-read : goal.returns-then-not-entry_follows-clause-read
returns-then-not-entry_follows-clause-read c =
    let t = c.loop-before-test.true in
    none_follows 128 c.loop-before.before (whole_lines c.loop-before.rest.now) (rows_counted (whole_lines c.args.bytes.now)) (omega arith) (sym c.entry_follows.ensures ∙ c.if-not-entry_follows.true) c.loop-before.invariant.read

pub returns-in_err-_row-clause-read : goal.returns-in_err-_row-clause-read
returns-in_err-_row-clause-read c =
    let p = err_from_is_err_and c.from_residual.result c.from_residual.ensures.1 in
    let t = c.loop-before-test.true in
    rw (p.1, p.2) (ends_row c.in_err-_row.field-0.0 128 c.loop-before.before (whole_lines c.loop-before.rest.now) (rows_counted (whole_lines c.args.bytes.now)) (omega arith) (sym c.entry_follows.ensures ∙ c.if-not-entry_follows.false) c.in_err-_row.ensures.read c.loop-before.invariant.read)

pub loop-before-preserved : goal.loop-before-preserved
loop-before-preserved c =
    let t = c.loop-before-test.true in
    record {
      read = goes_on 128 c.loop-before.before (whole_lines c.loop-before.rest.now) (whole_lines c.in_ok-_row.after.now) c.in_ok-_row._row (rows_counted (whole_lines c.args.bytes.now)) (omega arith) (sym c.entry_follows.ensures ∙ c.if-not-entry_follows.false) c.in_ok-_row.ensures.read c.loop-before.invariant.read;
      rest = c.in_ok-_row.ensures.rest ∙ c.loop-before.invariant.rest;
    }

pub returns-clause-read : goal.returns-clause-read
returns-clause-read c =
    let t = c.loop-before-test.false in
    let e = c.loop-before.auto.before-end in
    is_last 128 c.loop-before.before (whole_lines c.loop-before.rest.now) (rows_counted (whole_lines c.args.bytes.now)) (omega arith) c.loop-before.invariant.read
