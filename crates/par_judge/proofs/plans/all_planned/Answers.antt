use Rattle.std.proofs.Common.{◌≡◌, ◌+◌, ◌<◌, ◌∷◌, [], ◌++◌, ℕ, Result, Ok, length, take, get_or, ap, sym, subst, ◌∙◌, refl, arith}
use Rattle.std.specs.Prelude.{IfOk, slice_index_or}
use Rattle.std.proofs.lemmas.List.{length_push}
use Rattle.std.proofs.lemmas.Iterator.Consumers.{YieldsList-turn, YieldsList-end}
use Rattle.std.proofs.lemmas.Iterator.Adapters.{YieldsList-from_vec}
use Rattle.plan_memory.specs.declared.Memory.{Memory}
use Rattle.plan_entries.specs.declared.entries.Plan.{Plan}
use Rattle.par_judge.specs.declared.plans.Numbered.{Numbered}
use Rattle.par_judge.specs.Planned.{IsPlanOfNumbered, ArePlansOf}
use Rattle.par_judge.proofs.Joined.{paired-next, paired-whole}
use Rattle.par_judge.proofs.plans.all_planned.Goals as goal

pub loop-answer-preserved : goal.loop-answer-preserved
loop-answer-preserved c =
    let all = c.args.answers.items in
    let k = length c.loop-answer.yielded in
    let t = YieldsList-turn (YieldsList-from_vec {s = c.into_iter-answer-iterator.result} all (cc) (cc)) c.loop-answer.yielded c.loop-answer.answer-iterator c.loop-answer.yielded_by c.next.result c.next.new.self c.in-Some.answer c.in-Some.is c.next.ensures.steps in
    let few : k < length c.args.group.now = omega (arith, t.0, c.requires.as_many) in
    let told : (d : Numbered) → IsPlanOfNumbered (slice_index_or c.args.group.now k d) c.in_ok-answer.field-0 =
    λ d. rw (← t.1, c.in_ok-answer.was) at (c.requires.each k c.in-Some.answer d few) in
    let next : ArePlansOf (take (k + 1) c.args.group.now) (c.loop-answer.plans.items ++ c.in_ok-answer.field-0 ∷ []) = (paired-next IsPlanOfNumbered c.args.group.now k c.in_ok-answer.field-0 c.loop-answer.plans.items few told c.loop-answer.invariant) in
    rw (length_push c.loop-answer.yielded c.in-Some.answer, c.in_ok-push.ensures.items) next

pub returns : goal.returns
returns c =
    let t = YieldsList-end (YieldsList-from_vec {s = c.into_iter-answer-iterator.result} c.args.answers.items (cc) (cc)) c.loop-answer.yielded c.loop-answer.answer-iterator c.loop-answer.yielded_by c.next.result c.next.new.self c.in-None.is c.next.ensures.steps in
    paired-whole IsPlanOfNumbered c.args.group.now (length c.loop-answer.yielded) c.loop-answer.plans.items (omega (arith, t.1, c.requires.as_many)) c.loop-answer.invariant
