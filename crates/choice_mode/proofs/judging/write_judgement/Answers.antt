use Rattle.std.proofs.Common.{◌≡◌, [], inl, inr, refl, rules, subst}
use Rattle.std.specs.Prelude.{IsErrOf}
use Rattle.run_parts.specs.declared.parts.WriteStop.TheVariants.{Fault}
use Rattle.pallet_choice.specs.Text.{tail_value}
use Rattle.run_parts.specs.Written.{WrotePart}
use Rattle.run_parts.proofs.Pieces.{part-then, part-more}
use Rattle.choice_text.specs.Answers.{file_in}
use Rattle.check_mode.specs.Verdicts.{verdict_lines}
use Rattle.check_mode.proofs.VerdictFacts.{all-first}
use Rattle.choice_mode.specs.Judging.{TellsRight, choice_end}
use Rattle.choice_mode.proofs.Rightness.{told-right}
use Rattle.choice_mode.proofs.judging.write_judgement.Goals as goal

pub returns-in_err-seen-clause-part : goal.returns-in_err-seen-clause-part
returns-in_err-seen-clause-part g c = λ is.
    let failed : IsErrOf c.judge_entries.result Fault = search rules in
    let (vs, first, part) = c.judge_entries.ensures.part failed in
    (vs, [], first, inl refl, part-more _ _ (verdict_lines c.args.choice.entries vs) [] part)

pub returns-in_err-send-clause-part : goal.returns-in_err-send-clause-part
returns-in_err-send-clause-part g c = λ is.
    let es = c.args.choice.entries in
    let (vs, are, found, scores, wrote) = c.in_ok-seen.ensures.ok in
    let seen = c.in_ok-seen.seen in
    let right = c.in-Ok.right in
    let old = g.K.Sink.past c.args.sink.now in
    let mid = g.K.Sink.past c.judge_entries.new.sink in
    let new = g.K.Sink.past c.send.new.sink in
    let tells : TellsRight (file_in c.args.choice) vs right = told-right (file_in c.args.choice) vs seen.no seen.scores.items (tail_value c.args.choice.tail) right found scores refl c.in-Ok.ensures in
    let text : c.in-Ok-ending.text.items ≡ choice_end es right = search rules in
    let part : WrotePart mid new c.in-Ok-ending.text.items = search rules in (
      vs,
      choice_end es right,
      all-first es vs are,
      inr (are.as_many, (right, tells, refl)),
      part-then old mid new (verdict_lines es vs) (choice_end es right) wrote (subst (WrotePart mid new) text part),
    )
