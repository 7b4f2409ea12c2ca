use Rattle.std.proofs.Common.{◌==◌, ◌∙◌, ap, length, rules, sym, subst}
use Rattle.std.specs.Prelude.{IsErrOf}
use Rattle.run_parts.specs.declared.parts.WriteStop.TheVariants.{Fault, Memory}
use Rattle.run_parts.specs.Written.{WrotePart}
use Rattle.run_parts.proofs.Pieces.{part-then, part-more}
use Rattle.report_text.specs.Reports.{done_text}
use Rattle.check_mode.specs.Verdicts.{verdict_lines}
use Rattle.check_mode.specs.Checks.{done_if}
use Rattle.check_mode.proofs.VerdictFacts.{all-first, begun-whole}
use Rattle.check_mode.proofs.checks.write_verdicts.Goals as goal

pub returns-in_err-found-clause-part : goal.returns-in_err-found-clause-part
returns-in_err-found-clause-part g c = λ is.
    let failed : IsErrOf c.judge_entries.result Fault = search rules in
    let (vs, first, part) = c.judge_entries.ensures.part failed in
    (vs, first, part-more _ _ (verdict_lines c.args.entries.now.entries vs) (done_if (length vs == length c.args.entries.now.entries) (length c.args.entries.now.entries)) part)

pub returns-in_err-write_done-clause-part : goal.returns-in_err-write_done-clause-part
returns-in_err-write_done-clause-part g c = λ is.
    let es = c.args.entries.now.entries in
    let (vs, are, found, wrote) = c.in_ok-found.ensures.ok in
    let old = g.K.Sink.past c.args.sink.now in
    let mid = g.K.Sink.past c.judge_entries.new.sink in
    let new = g.K.Sink.past c.write_done.new.sink in
    let last : WrotePart mid new (done_text (length es)) = search rules in
    (vs, all-first es vs are, subst (WrotePart old new) (sym (begun-whole es vs are.as_many)) (part-then old mid new (verdict_lines es vs) (done_text (length es)) wrote last))

pub returns-in_err-write_done-clause-unsent : goal.returns-in_err-write_done-clause-unsent
returns-in_err-write_done-clause-unsent g c = λ is same.
    let failed : IsErrOf c.write_done.result Memory = search rules in
    let still = c.write_done.ensures.memory failed in
    still ∙ c.in_ok-found.ensures.untouched (ap g.K.Sink.past (sym still) ∙ same)
