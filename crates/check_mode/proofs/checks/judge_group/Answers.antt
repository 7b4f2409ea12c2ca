use Rattle.std.proofs.Common.{◌∙◌, ◌≤◌, ℕ, List, length, take, ap, rules, sym, subst}
use Rattle.std.specs.Prelude.{All}
use Rattle.cert_text.specs.declared.forms.Form.TheVariants.{Two}
use Rattle.plan_entries.specs.Ranges.{IsInRange}
use Rattle.plan_entries.specs.declared.entries.Entry.{Entry}
use Rattle.run_parts.specs.Written.{Wrote, WrotePart}
use Rattle.par_judge.specs.Judged.{AreVerdicts}
use Rattle.check_mode.specs.Verdicts.{AreFirstVerdicts, verdict_lines}
use Rattle.check_mode.proofs.VerdictFacts.{few-first, all-first, take-first, first-in, lines-in}
use Rattle.report_reading.proofs.Nexts.{all-front}
use Rattle.check_mode.proofs.checks.judge_group.Goals as goal

pub judge_through-requires-clause-ranges : goal.judge_through-requires-clause-ranges
judge_through-requires-clause-ranges g c =
    let rest = c.take_group.new.entries.entries in
    let ranges : All (IsInRange Two) c.in-Ok.group.items = all-front (IsInRange Two) c.in-Ok.group.items rest (subst (λ (l : List Entry). All (IsInRange Two) l) c.in-Ok.ensures.parts c.requires.ranges) in
    search (rules, ranges)

pub returns-clause-part : goal.returns-clause-part
returns-clause-part g c = λ is.
    let es = c.in-Ok.group.items in
    let rest = c.take_group.new.entries.entries in
    let vs = c.in-Ok-judge_through.verdicts.items in
    let old = g.K.Sink.past c.args.sink.now in
    let new = g.K.Sink.past c.write_lines.new.sink in
    let are : AreVerdicts es vs = search rules in
    let part : WrotePart old new (verdict_lines es vs) = search rules in
    let parts = c.in-Ok.ensures.parts in
    let first = all-first es vs are in
    let lines = ap (λ (l : List Entry). verdict_lines l vs) parts ∙ lines-in es rest vs (few-first es vs first) in
    (vs, subst (λ (l : List Entry). AreFirstVerdicts l vs) (sym parts) (first-in es rest vs first), subst (WrotePart old new) (sym lines) part)

pub returns-clause-memory : goal.returns-clause-memory
returns-clause-memory g c = λ is.
    let es = c.in-Ok.group.items in
    let rest = c.take_group.new.entries.entries in
    let vs = c.in-Ok-judge_through.verdicts.items in
    let old = g.K.Sink.past c.args.sink.now in
    let new = g.K.Sink.past c.write_lines.new.sink in
    let are : AreVerdicts es vs = search rules in
    let memory : (j : ℕ) × (j ≤ length vs) × Wrote old new (verdict_lines es (take j vs)) = search rules in
    let (j, le, wrote) = memory in
    let parts = c.in-Ok.ensures.parts in
    let first = take-first j es vs le are in
    let lines = ap (λ (l : List Entry). verdict_lines l (take j vs)) parts ∙ lines-in es rest (take j vs) (few-first es (take j vs) first) in
    (take j vs, subst (λ (l : List Entry). AreFirstVerdicts l (take j vs)) (sym parts) (first-in es rest (take j vs) first), subst (Wrote old new) (sym lines) wrote)
