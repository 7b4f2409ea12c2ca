use Rattle.std.proofs.Common.{◌≡◌, ap, true, false, refl, rules, subst}
use Rattle.std.specs.Prelude.{IsErrOf, not}
use Rattle.run_parts.specs.declared.parts.WriteStop.TheVariants.{Fault as fault_stop}
use Rattle.run_parts.specs.declared.codes.Code.TheVariants.{Findings, WriteFault}
use Rattle.cert_text.specs.declared.forms.Form.TheVariants.{Two}
use Rattle.report_text.specs.Reports.{Report}
use Rattle.choice_text.specs.Answers.{file_in}
use Rattle.report_reading.proofs.Today.{in-range-today}
use Rattle.choice_mode.specs.Reading.{HasChoice}
use Rattle.choice_mode.specs.Judging.{ChoiceJudged, judgement_text}
use Rattle.choice_mode.proofs.Due.{judged-part}
use Rattle.choice_mode.proofs.Ran.{choice-read, judged}
use Rattle.choice_mode.proofs.Shown.{end-shows}
use Rattle.choice_mode.proofs.judging.check_choice.Goals as goal

pub write_judgement-requires : goal.write_judgement-requires
write_judgement-requires g c =
    let report : Report = record { form = Two; entries = c.in-Ok-choice_of.choice.entries } in
    in-range-today report c.in-Ok-choice_of.ensures.found.is_choice.is_file.reported

pub returns-in-Ok-true-clause-untouched : goal.returns-in-Ok-true-clause-untouched
returns-in-Ok-true-clause-untouched g c = λ _ same.
    let (vs, are, tells, wrote) = c.in-Ok-true.ensures.ok in
    absurd (end-shows _ _ _ _ _ wrote same)

pub returns-in-Ok-false-clause-ran : goal.returns-in-Ok-false-clause-ran
returns-in-Ok-false-clause-ran g c =
    let f = file_in c.in-Ok-choice_of.choice in
    let bytes = c.in-Ok.bytes.items in
    let right = c.in-Ok-false.field-0 in
    let wrong : right ≡ false = search rules in
    let has : HasChoice bytes f = search rules in
    let (vs, are, tells, wrote) = c.in-Ok-false.ensures.ok in
    let said : ChoiceJudged bytes (judgement_text f.entries vs right) true = subst (λ b. ChoiceJudged bytes (judgement_text f.entries vs right) (not b)) wrong (judged bytes f vs right has are tells) in
    rw (c.plain-in-Ok-false.ensures.code, c.plain-in-Ok-false.ensures.line) (choice-read _ _ Findings _ _ bytes (judgement_text f.entries vs right) c.in-Ok.ensures.read (ap (λ p. p.taken) wrote) c.write_judgement.ensures.later
    (λ ended. (ended, said, refl)))

pub returns-in-Ok-false-clause-untouched : goal.returns-in-Ok-false-clause-untouched
returns-in-Ok-false-clause-untouched g c = λ _ same.
    let (vs, are, tells, wrote) = c.in-Ok-false.ensures.ok in
    absurd (end-shows _ _ _ _ _ wrote same)

pub returns-in-Err-Fault-clause-ran : goal.returns-in-Err-Fault-clause-ran
returns-in-Err-Fault-clause-ran g c =
    let f = file_in c.in-Ok-choice_of.choice in
    let bytes = c.in-Ok.bytes.items in
    let has : HasChoice bytes f = search rules in
    let failed : IsErrOf c.write_judgement.result fault_stop = search rules in
    let (vs, end, first, may, part) = c.write_judgement.ensures.part failed in
    rw (c.plain-in-Err-Fault.ensures.code, c.plain-in-Err-Fault.ensures.line) (choice-read _ _ WriteFault _ _ bytes part.sent c.in-Ok.ensures.read part.wrote c.write_judgement.ensures.later
    (λ ended. (ended, judged-part bytes f vs end _ _ has first may part, c.write_judgement.ensures.rose failed, refl)))
