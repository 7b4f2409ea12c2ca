use Rattle.std.proofs.Common.{◌∙◌, List, [], ◌∷◌, ◌++◌, ap, arith, refl, rules, sym, subst}
use Rattle.std.specs.Prelude.{All, IsErrOf, ◌||◌}
use Rattle.std.proofs.lemmas.List.Elements.{All-tail}
use Rattle.cert_text.specs.declared.forms.Form.TheVariants.{Two}
use Rattle.plan_entries.specs.Ranges.{IsInRange}
use Rattle.plan_entries.specs.declared.entries.Entry.{Entry}
use Rattle.run_parts.specs.declared.parts.WriteStop.TheVariants.{Fault, Memory}
use Rattle.run_parts.specs.Written.{Wrote}
use Rattle.run_parts.proofs.Pieces.{wrote-nil, wrote-trans, part-then}
use Rattle.par_judge.proofs.Joined.{verdicts-none}
use Rattle.check_mode.specs.Verdicts.{is_no, line_of, verdict_lines}
use Rattle.check_mode.proofs.VerdictFacts.{no-next}
use Rattle.report_reading.proofs.Nexts.{one-on}
use Rattle.report_reading.proofs.Untouched.{untouched-trans}
use Rattle.check_mode.proofs.Untouched.{line-shows}
use Rattle.choice_mode.proofs.EntryScores.{scores-kept}
use Rattle.choice_mode.proofs.NextVerdict.{verdicts-next, line-next, first-of, lines-of}
use Rattle.choice_mode.proofs.judging.judge_entries.Goals as goal

pub loop-alloc-init : goal.loop-alloc-init
loop-alloc-init g c = record {
  judged = ([], [], refl, verdicts-none, refl, c.new.ensures.items, wrote-nil (g.K.Sink.past c.args.sink.now));
  untouched = λ same. refl;
  later = omega arith;
  ranges = c.requires;
}

pub returns-in_err-judge_next-clause-part : goal.returns-in_err-judge_next-clause-part
returns-in_err-judge_next-clause-part g c = λ is.
    let (before, vs, parts, are, found, scores, wrote) = c.loop-alloc.invariant.judged in
    let failed : IsErrOf c.judge_next.result Fault = search rules in
    let (e, v, next, right, part) = c.judge_next.ensures.part failed in
    let all = c.args.entries.now in
    let rest = c.judge_next.new.entries in
    let old = g.K.Sink.past c.args.sink.now in
    let mid = g.K.Sink.past c.loop-alloc.sink in
    let new = g.K.Sink.past c.judge_next.new.sink in
    let whole = one-on all before rest c.loop-alloc.entries e parts next in
    let these = verdicts-next before vs e v are right in
    let lines = lines-of all (before ++ e ∷ []) rest (vs ++ v ∷ []) whole these ∙ line-next before vs e v are in (
      vs ++ v ∷ [],
      first-of all (before ++ e ∷ []) rest (vs ++ v ∷ []) whole these,
      rw lines (part-then old mid new (verdict_lines before vs) (line_of e v) wrote part),
    )

pub returns-in_err-judge_next-clause-memory : goal.returns-in_err-judge_next-clause-memory
returns-in_err-judge_next-clause-memory g c = λ is.
    let (before, vs, parts, are, found, scores, wrote) = c.loop-alloc.invariant.judged in
    let failed : IsErrOf c.judge_next.result Memory = search rules in
    let still = c.judge_next.ensures.memory failed in
    let all = c.args.entries.now in
    let old = g.K.Sink.past c.args.sink.now in
    let lines = lines-of all before c.loop-alloc.entries vs parts are in (
      vs,
      first-of all before c.loop-alloc.entries vs parts are,
      subst (λ k. Wrote old (g.K.Sink.past k) (verdict_lines all vs)) (sym still) (subst (Wrote old (g.K.Sink.past c.loop-alloc.sink)) (sym lines) wrote),
    )

pub loop-alloc-preserved : goal.loop-alloc-preserved
loop-alloc-preserved g c =
    let inv = c.loop-alloc.invariant in
    let (before, vs, parts, are, found, scores, wrote) = inv.judged in
    let (e, v, next, right, no-so, kept, line) = c.in_ok-judge_next.ensures.ok in
    let all = c.args.entries.now in
    let rest = c.judge_next.new.entries in
    let old = g.K.Sink.past c.args.sink.now in
    let mid = g.K.Sink.past c.loop-alloc.sink in
    let new = g.K.Sink.past c.judge_next.new.sink in
    record {
      judged = (
        before ++ e ∷ [],
        vs ++ v ∷ [],
        one-on all before rest c.loop-alloc.entries e parts next,
        verdicts-next before vs e v are right,
        no-next vs v ∙ ap (λ b. b || is_no v) found ∙ sym no-so,
        scores-kept before e c.loop-alloc.seen.scores.items c.judge_next.new.seen.scores.items kept scores,
        rw (line-next before vs e v are) (wrote-trans old mid new (verdict_lines before vs) (line_of e v) wrote line),
      );
      untouched = untouched-trans g.K.Sink.past c.args.sink.now c.loop-alloc.sink c.judge_next.new.sink (verdict_lines before vs) (line_of e v) wrote line inv.untouched (line-shows g.K.Sink.past c.loop-alloc.sink c.judge_next.new.sink e v line);
      later = omega (arith, inv.later, c.judge_next.ensures.later);
      ranges = All-tail (IsInRange Two) e rest (subst (λ (l : List Entry). All (IsInRange Two) l) next inv.ranges);
    }
