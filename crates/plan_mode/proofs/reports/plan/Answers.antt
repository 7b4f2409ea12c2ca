use Rattle.std.proofs.Common.{◌≡◌, inl, inr, ap, sym, subst, rules}
use Rattle.std.specs.Prelude.{IsErrOf}
use Rattle.run_parts.specs.declared.parts.WriteStop.TheVariants.{Memory}
use Rattle.plan_mode.specs.OrdersFiles.{HasRows}
use Rattle.plan_mode.specs.Pieces.{joined}
use Rattle.plan_mode.proofs.Ran.{StoppedWhole, refused_ran, took_some, took_report}
use Rattle.plan_mode.proofs.reports.plan.Goals as goal

pub returns-clause-ran : goal.returns-clause-ran
returns-clause-ran g c =
    let rows = c.deref.result.now in
    let same : rows ≡ c.in-Ok.rows.items = search rules in
    let (read, ended, has) = c.in-Ok.ensures.rows in
    let refused : IsErrOf c.write_report.result Memory = search rules in
    let stopped : StoppedWhole c.args.draw rows (g.K.Sink.past c.args.sink.now) (g.K.Sink.past c.write_report.new.sink) =
    elim (c.write_report.ensures.memory refused) [ inl untouched ↦ inl (ap g.K.Sink.past untouched) | inr wrote ↦ inr wrote ] in
    refused_ran c.args.draw rows read _ _ _ _ ended (subst (HasRows read) (sym same) has) stopped

pub returns-in-Ok-true-clause-untouched : goal.returns-in-Ok-true-clause-untouched
returns-in-Ok-true-clause-untouched g c = λ _ same.
    let (es, text, are, accepted, found, is_text, plain, wrote) = c.in-Ok-true.ensures.ok in
    absurd (took_report c.args.draw es text _ _ is_text wrote same)

pub returns-in-Ok-false-clause-untouched : goal.returns-in-Ok-false-clause-untouched
returns-in-Ok-false-clause-untouched g c = λ _ same.
    let (es, text, are, accepted, found, is_text, plain, wrote) = c.in-Ok-false.ensures.ok in
    absurd (took_report c.args.draw es text _ _ is_text wrote same)

pub returns-clause-untouched : goal.returns-clause-untouched
returns-clause-untouched g c = λ _ same.
    let refused : IsErrOf c.write_report.result Memory = search rules in
    elim (c.write_report.ensures.memory refused) [
      | inl untouched ↦ untouched
      | inr (es, text, first, broken, wrote) ↦ absurd (took_some c.args.draw (joined broken.pieces) text _ _ broken.text_is wrote same)
    ]
