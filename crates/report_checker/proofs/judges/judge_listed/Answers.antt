use Rattle.std.proofs.Common.{sym, subst}
use Rattle.report_checker.specs.Verdicts.{IsPlanVerdict}
use Rattle.report_checker.proofs.OneVerdict.{fails-bound, fails-status, fails-allowed, fails-stack}
use Rattle.report_checker.proofs.Parts.{not-so, has-few_marks}
use Rattle.report_checker.proofs.judges.judge_listed.Goals as goal

pub shows_bound-requires-clause-marks : goal.shows_bound-requires-clause-marks
shows_bound-requires-clause-marks c = has-few_marks c.args.plan.now c.requires.range

pub returns-then-not-branch : goal.returns-then-not-branch
returns-then-not-branch c =
    let p = c.args.plan.now in
    subst (λ v. IsPlanVerdict p v) (sym c.fails.ensures)
    (fails-bound p c.requires.kept c.requires.layers c.requires.variants
    (not-so c.in_ok-shows_bound.field-0 c.in_ok-shows_bound.ensures.1 c.if-not-branch.true))

pub returns-then-not-tells_status : goal.returns-then-not-tells_status
returns-then-not-tells_status c =
    let p = c.args.plan.now in
    subst (λ v. IsPlanVerdict p v) (sym c.fails-then-not-tells_status.ensures)
    (fails-status p c.requires.kept c.requires.layers c.requires.variants (c.in_ok-shows_bound.ensures.0 c.if-not-branch.false)
    (not-so c.tells_status.result c.tells_status.ensures.1 c.if-not-tells_status.true))

pub returns-then-not-tells_allowed : goal.returns-then-not-tells_allowed
returns-then-not-tells_allowed c =
    let p = c.args.plan.now in
    subst (λ v. IsPlanVerdict p v) (sym c.fails-then-not-tells_allowed.ensures)
    (fails-allowed p c.requires.kept c.requires.layers c.requires.variants (c.in_ok-shows_bound.ensures.0 c.if-not-branch.false)
    (c.tells_status.ensures.0 c.if-not-tells_status.false)
    (not-so c.tells_allowed.result c.tells_allowed.ensures.1 c.if-not-tells_allowed.true))

pub returns-then-not-branch-2 : goal.returns-then-not-branch-2
returns-then-not-branch-2 c =
    let p = c.args.plan.now in
    subst (λ v. IsPlanVerdict p v) (sym c.fails-then-not-branch-2.ensures)
    (fails-stack p c.requires.kept c.requires.layers c.requires.variants (c.in_ok-shows_bound.ensures.0 c.if-not-branch.false)
    (c.tells_status.ensures.0 c.if-not-tells_status.false) (c.tells_allowed.ensures.0 c.if-not-tells_allowed.false)
    (not-so c.in_ok-tells_stack.field-0 c.in_ok-tells_stack.ensures.1 c.if-not-branch-2.true))

pub returns : goal.returns
returns c = record {
  reduced = c.requires.kept;
  layout = c.requires.layers;
  variants = c.requires.variants;
  bound = c.in_ok-shows_bound.ensures.0 c.if-not-branch.false;
  status = c.tells_status.ensures.0 c.if-not-tells_status.false;
  allowed = c.tells_allowed.ensures.0 c.if-not-tells_allowed.false;
  stack = c.in_ok-tells_stack.ensures.0 c.if-not-branch-2.false;
}
