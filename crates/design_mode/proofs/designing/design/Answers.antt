use Rattle.std.proofs.Common.{inl, inr, ap, rules}
use Rattle.std.specs.Prelude.{IsErrOf}
use Rattle.cert_text.specs.declared.forms.Form.TheVariants.{Two}
use Rattle.run_parts.specs.declared.parts.WriteStop.TheVariants.{Memory}
use Rattle.report_text.specs.Reports.{entries_text}
use Rattle.design_mode.proofs.Shown.{head-shows}
use Rattle.design_mode.proofs.Ran.{HasStopped, memory-ran}
use Rattle.design_mode.proofs.designing.design.Goals as goal

pub returns-in-Ok-true-clause-untouched : goal.returns-in-Ok-true-clause-untouched
returns-in-Ok-true-clause-untouched g c = λ _ same.
    let (es, best, rivals, are, accepted, is_best, found, wrote) = c.in-Ok-true.ensures.ok in
    absurd (head-shows c.in-Ok.asked _ _ _ wrote same)

pub returns-in-Ok-false-clause-untouched : goal.returns-in-Ok-false-clause-untouched
returns-in-Ok-false-clause-untouched g c = λ _ same.
    let (es, best, rivals, are, accepted, is_best, found, wrote) = c.in-Ok-false.ensures.ok in
    absurd (head-shows c.in-Ok.asked _ _ _ wrote same)

pub returns-clause-untouched : goal.returns-clause-untouched
returns-clause-untouched g c = λ _ same.
    let refused : IsErrOf c.write_design.result Memory = search rules in
    elim (c.write_design.ensures.memory refused) [
      | inl untouched ↦ untouched
      | inr (es, first, wrote) ↦ absurd (head-shows c.in-Ok.asked (entries_text Two es) _ _ wrote same)
    ]

pub returns-clause-ran : goal.returns-clause-ran
returns-clause-ran g c =
    let (read, ended, has) = c.in-Ok.ensures.design in
    let refused : IsErrOf c.write_design.result Memory = search rules in
    let stopped : HasStopped c.in-Ok.asked (g.K.Sink.past c.args.sink.now) (g.K.Sink.past c.write_design.new.sink) =
    elim (c.write_design.ensures.memory refused) [ inl untouched ↦ inl (ap g.K.Sink.past untouched) | inr wrote ↦ inr wrote ] in
    memory-ran c.in-Ok.asked read _ _ _ _ ended has stopped
