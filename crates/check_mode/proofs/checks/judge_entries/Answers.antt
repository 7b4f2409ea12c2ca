use Rattle.std.proofs.Common.{◌∙◌, ◌++◌, List, [], ap, append_assoc, arith, refl, rules, sym, subst}
use Rattle.std.specs.Prelude.{All, IsErrOf, ◌||◌}
use Rattle.cert_text.specs.declared.forms.Form.TheVariants.{Two}
use Rattle.plan_entries.specs.Ranges.{IsInRange}
use Rattle.plan_entries.specs.declared.entries.Entry.{Entry}
use Rattle.run_parts.specs.declared.parts.WriteStop.TheVariants.{Fault, Memory}
use Rattle.run_parts.specs.Written.{Wrote, WrotePart}
use Rattle.run_parts.proofs.Pieces.{wrote-trans, wrote-nil, part-then}
use Rattle.par_judge.proofs.Joined.{verdicts-none, verdicts-append}
use Rattle.check_mode.specs.Verdicts.{AreFirstVerdicts, any_no, verdict_lines}
use Rattle.check_mode.proofs.VerdictFacts.{first-after, lines-after, no-more}
use Rattle.report_reading.proofs.Nexts.{all-behind}
use Rattle.report_reading.proofs.Untouched.{untouched-trans}
use Rattle.check_mode.proofs.checks.judge_entries.Goals as goal

pub loop-alloc-init : goal.loop-alloc-init
loop-alloc-init g c = record {
  judged = ([], [], refl, verdicts-none, refl, wrote-nil (g.K.Sink.past c.args.sink.now));
  untouched = λ same. refl;
  later = omega arith;
  ranges = c.requires.ranges;
}

pub returns-in_err-no-clause-part : goal.returns-in_err-no-clause-part
returns-in_err-no-clause-part g c = λ is.
    let (before, vs, parts, are, found, wrote) = c.loop-alloc.invariant.judged in
    let failed : IsErrOf c.judge_group.result Fault = search rules in
    let (ws, first, part) = c.judge_group.ensures.part failed in
    let rest = c.loop-alloc.entries.entries in
    let old = g.K.Sink.past c.args.sink.now in
    let mid = g.K.Sink.past c.loop-alloc.sink in
    let new = g.K.Sink.past c.judge_group.new.sink in
    let lines = ap (λ (l : List Entry). verdict_lines l (vs ++ ws)) parts ∙ lines-after before rest vs ws are.as_many in (
      vs ++ ws,
      subst (λ (l : List Entry). AreFirstVerdicts l (vs ++ ws)) (sym parts) (first-after before rest vs ws are first),
      subst (WrotePart old new) (sym lines) (part-then old mid new (verdict_lines before vs) (verdict_lines rest ws) wrote part),
    )

pub returns-in_err-no-clause-memory : goal.returns-in_err-no-clause-memory
returns-in_err-no-clause-memory g c = λ is.
    let (before, vs, parts, are, found, wrote) = c.loop-alloc.invariant.judged in
    let failed : IsErrOf c.judge_group.result Memory = search rules in
    let (ws, first, more) = c.judge_group.ensures.memory failed in
    let rest = c.loop-alloc.entries.entries in
    let old = g.K.Sink.past c.args.sink.now in
    let mid = g.K.Sink.past c.loop-alloc.sink in
    let new = g.K.Sink.past c.judge_group.new.sink in
    let lines = ap (λ (l : List Entry). verdict_lines l (vs ++ ws)) parts ∙ lines-after before rest vs ws are.as_many in (
      vs ++ ws,
      subst (λ (l : List Entry). AreFirstVerdicts l (vs ++ ws)) (sym parts) (first-after before rest vs ws are first),
      subst (Wrote old new) (sym lines) (wrote-trans old mid new (verdict_lines before vs) (verdict_lines rest ws) wrote more),
    )

pub returns-in_err-no-clause-unsent : goal.returns-in_err-no-clause-unsent
returns-in_err-no-clause-unsent g c = λ is.
    let inv = c.loop-alloc.invariant in
    let (before, vs, parts, are, found, wrote) = inv.judged in
    let failed : IsErrOf c.judge_group.result Memory = search rules in
    let (ws, first, more) = c.judge_group.ensures.memory failed in
    let rest = c.loop-alloc.entries.entries in
    untouched-trans g.K.Sink.past c.args.sink.now c.loop-alloc.sink c.judge_group.new.sink (verdict_lines before vs) (verdict_lines rest ws) wrote more inv.untouched (c.judge_group.ensures.unsent failed)

pub loop-alloc-preserved : goal.loop-alloc-preserved
loop-alloc-preserved g c =
    let inv = c.loop-alloc.invariant in
    let (before, vs, parts, are, found, wrote) = inv.judged in
    let (group, ws, taken, count, these, negative, more) = c.in_ok-no.ensures.ok in
    let rest = c.judge_group.new.entries.entries in
    let old = g.K.Sink.past c.args.sink.now in
    let mid = g.K.Sink.past c.loop-alloc.sink in
    let new = g.K.Sink.past c.judge_group.new.sink in
    record {
      judged = (
        before ++ group,
        vs ++ ws,
        parts ∙ ap (λ (l : List Entry). before ++ l) taken ∙ sym (append_assoc before group rest),
        verdicts-append before group vs ws are these,
        no-more vs ws ∙ ap (λ b. b || any_no ws) found ∙ ap (λ b. c.loop-alloc.found || b) negative ∙ sym c.either-found.ensures,
        subst (Wrote old new) (sym (lines-after before group vs ws are.as_many)) (wrote-trans old mid new (verdict_lines before vs) (verdict_lines group ws) wrote more),
      );
      untouched = untouched-trans g.K.Sink.past c.args.sink.now c.loop-alloc.sink c.judge_group.new.sink (verdict_lines before vs) (verdict_lines group ws) wrote more inv.untouched c.in_ok-no.ensures.untouched;
      later = omega (arith, inv.later, c.judge_group.ensures.later);
      ranges = all-behind (IsInRange Two) group rest (subst (λ (l : List Entry). All (IsInRange Two) l) taken inv.ranges);
    }
