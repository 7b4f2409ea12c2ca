use Rattle.std.proofs.Common.{◌∙◌, List, [], ◌∷◌, ◌++◌, ap, append_assoc, arith, refl, rules, sym, subst}
use Rattle.std.specs.Prelude.{All, IsErrOf, ◌||◌}
use Rattle.std.proofs.lemmas.List.Elements.{All-tail}
use Rattle.cert_text.specs.declared.forms.Form.TheVariants.{Two}
use Rattle.plan_entries.specs.Ranges.{IsInRange}
use Rattle.run_parts.specs.declared.parts.WriteStop.TheVariants.{Fault, Memory}
use Rattle.run_parts.specs.Written.{Wrote}
use Rattle.run_parts.proofs.Pieces.{wrote-nil, wrote-trans, part-then}
use Rattle.report_reading.proofs.Untouched.{untouched-trans}
use Rattle.floor_text.specs.declared.rows.FloorRow.{FloorRow}
use Rattle.floor_text.specs.Text.{entries_in}
use Rattle.floor_mode.specs.Judging.{is_wrong, row_judged, rows_judged}
use Rattle.floor_mode.proofs.JudgedRows.{judged-next, first-of, wrong-next, lines-next, lines-of}
use Rattle.floor_mode.proofs.Shown.{row-shows}
use Rattle.floor_mode.proofs.judging.judge_rows.Goals as goal

pub loop-alloc-init : goal.loop-alloc-init
loop-alloc-init g c = record {
  judged = ([], [], refl, tt, refl, wrote-nil (g.K.Sink.past c.args.sink.now));
  untouched = λ same. refl;
  later = omega arith;
  ranges = c.requires;
}

pub returns-in_err-wrong-clause-part : goal.returns-in_err-wrong-clause-part
returns-in_err-wrong-clause-part g c = λ is.
    let (before, js, parts, are, found, wrote) = c.loop-alloc.invariant.judged in
    let failed : IsErrOf c.judge_next.result Fault = search rules in
    let (r, j, next, right, part) = c.judge_next.ensures.part failed in
    let all = c.args.rows.now in
    let rest = c.judge_next.new.rows in
    let old = g.K.Sink.past c.args.sink.now in
    let mid = g.K.Sink.past c.loop-alloc.sink in
    let new = g.K.Sink.past c.judge_next.new.sink in
    let whole = parts ∙ ap (λ (l : List FloorRow). before ++ l) next ∙ sym (append_assoc before (r ∷ []) rest) in
    let these = judged-next before js r j are right in
    let lines = lines-of all (before ++ r ∷ []) rest (js ++ j ∷ []) whole these ∙ lines-next before js r j are in (
      js ++ j ∷ [],
      first-of all (before ++ r ∷ []) rest (js ++ j ∷ []) whole these,
      rw lines (part-then old mid new (rows_judged before js) (row_judged r j) wrote part),
    )

pub returns-in_err-wrong-clause-memory : goal.returns-in_err-wrong-clause-memory
returns-in_err-wrong-clause-memory g c = λ is.
    let (before, js, parts, are, found, wrote) = c.loop-alloc.invariant.judged in
    let failed : IsErrOf c.judge_next.result Memory = search rules in
    let still = c.judge_next.ensures.memory failed in
    let all = c.args.rows.now in
    let old = g.K.Sink.past c.args.sink.now in
    let lines = lines-of all before c.loop-alloc.rows js parts are in (
      js,
      first-of all before c.loop-alloc.rows js parts are,
      subst (λ k. Wrote old (g.K.Sink.past k) (rows_judged all js)) (sym still) (subst (Wrote old (g.K.Sink.past c.loop-alloc.sink)) (sym lines) wrote),
    )

pub loop-alloc-preserved : goal.loop-alloc-preserved
loop-alloc-preserved g c =
    let inv = c.loop-alloc.invariant in
    let (before, js, parts, are, found, wrote) = inv.judged in
    let (r, j, next, right, wrong, line) = c.in_ok-wrong.ensures.ok in
    let rest = c.judge_next.new.rows in
    let old = g.K.Sink.past c.args.sink.now in
    let mid = g.K.Sink.past c.loop-alloc.sink in
    let new = g.K.Sink.past c.judge_next.new.sink in
    let ranges : All (IsInRange Two) (entries_in (r ∷ rest)) = subst (λ (l : List FloorRow). All (IsInRange Two) (entries_in l)) next inv.ranges in
    record {
      judged = (
        before ++ r ∷ [],
        js ++ j ∷ [],
        parts ∙ ap (λ (l : List FloorRow). before ++ l) next ∙ sym (append_assoc before (r ∷ []) rest),
        judged-next before js r j are right,
        wrong-next js j ∙ ap (λ b. b || is_wrong j) found ∙ ap (λ b. c.loop-alloc.found || b) wrong ∙ sym c.either-found.ensures,
        rw (lines-next before js r j are) (wrote-trans old mid new (rows_judged before js) (row_judged r j) wrote line),
      );
      untouched = untouched-trans g.K.Sink.past c.args.sink.now c.loop-alloc.sink c.judge_next.new.sink (rows_judged before js) (row_judged r j) wrote line inv.untouched (row-shows g.K.Sink.past c.loop-alloc.sink c.judge_next.new.sink r j line);
      later = omega (arith, inv.later, c.judge_next.ensures.later);
      ranges = All-tail (IsInRange Two) r.load (entries_in rest) (All-tail (IsInRange Two) r.floor (r.load ∷ entries_in rest) ranges);
    }
