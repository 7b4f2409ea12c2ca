use Rattle.std.proofs.Common.{◌∙◌, ◌+◌, take, drop, get_or, ap, arith, rules, sym, subst}
use Rattle.std.specs.Prelude.{IsErrOf, ◌||◌}
use Rattle.std.proofs.lemmas.List.{take_more}
use Rattle.run_parts.specs.declared.parts.WriteStop.TheVariants.{Fault, Memory}
use Rattle.run_parts.specs.Written.{Wrote, WrotePart}
use Rattle.run_parts.proofs.Pieces.{wrote-trans, part-then, part-more}
use Rattle.report_checker.specs.declared.verdicts.Verdict.TheVariants.{Yes}
use Rattle.check_mode.specs.Verdicts.{is_no, any_no, line_of, verdict_lines}
use Rattle.check_mode.proofs.VerdictFacts.{no-next, line-more, lines-parts}
use Rattle.report_reading.proofs.Untouched.{untouched-trans}
use Rattle.check_mode.proofs.Untouched.{line-shows}
use Rattle.check_mode.proofs.checks.write_lines.Goals as goal

pub returns-in_err-write_line-clause-part : goal.returns-in_err-write_line-clause-part
returns-in_err-write_line-clause-part g c = λ is.
    let es = c.args.group.now in
    let vs = c.args.verdicts.now in
    let i = c.loop-place.place in
    let e = c.index-group-place.result in
    let old = g.K.Sink.past c.args.sink.now in
    let mid = g.K.Sink.past c.loop-place.sink in
    let new = g.K.Sink.past c.write_line.new.sink in
    let failed : IsErrOf c.write_line.result Fault = search rules in
    let line : WrotePart mid new (line_of e (get_or vs i Yes)) = c.write_line.ensures.part failed in
    let more = part-then old mid new (verdict_lines es (take i vs)) (line_of e (get_or vs i Yes)) c.loop-place.invariant.wrote line in
    let now : WrotePart old new (verdict_lines es (take (i + 1) vs)) = subst (WrotePart old new) (sym (line-more es vs i e Yes c.loop-place-test.true c.requires c.index-group-place.is)) more in
    subst (WrotePart old new) (sym (lines-parts (i + 1) es vs)) (part-more old new (verdict_lines es (take (i + 1) vs)) (verdict_lines (drop (i + 1) es) (drop (i + 1) vs)) now)

pub loop-place-preserved : goal.loop-place-preserved
loop-place-preserved g c =
    let es = c.args.group.now in
    let vs = c.args.verdicts.now in
    let i = c.loop-place.place in
    let e = c.index-group-place.result in
    let v = get_or vs i Yes in
    let old = g.K.Sink.past c.args.sink.now in
    let mid = g.K.Sink.past c.loop-place.sink in
    let new = g.K.Sink.past c.write_line.new.sink in
    let inv = c.loop-place.invariant in
    let lt = c.loop-place-test.true in
    let line : Wrote mid new (line_of e v) = c.in_ok-write_line.ensures.ok in
    record {
      found = ap any_no (take_more vs i Yes lt) ∙ no-next (take i vs) v ∙ ap (λ b. b || is_no v) inv.found ∙ ap (λ b. c.loop-place.found || b) (sym c.is_no.ensures) ∙ sym c.either-found.ensures;
      untouched = untouched-trans g.K.Sink.past c.args.sink.now c.loop-place.sink c.write_line.new.sink (verdict_lines es (take i vs)) (line_of e v) inv.wrote line inv.untouched (line-shows g.K.Sink.past c.loop-place.sink c.write_line.new.sink e v line);
      later = omega (arith, inv.later, c.write_line.ensures.later);
      wrote = subst (Wrote old new) (sym (line-more es vs i e Yes lt c.requires c.index-group-place.is)) (wrote-trans old mid new (verdict_lines es (take i vs)) (line_of e v) inv.wrote line);
    }

pub returns-in_err-write_line-clause-unsent : goal.returns-in_err-write_line-clause-unsent
returns-in_err-write_line-clause-unsent g c = λ is same.
    let failed : IsErrOf c.write_line.result Memory = search rules in
    let still = c.write_line.ensures.memory failed in
    still ∙ c.loop-place.invariant.untouched (ap g.K.Sink.past (sym still) ∙ same)
