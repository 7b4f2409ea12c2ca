use Rattle.report_checker.proofs.Parts.{variants-given, stack-told}
use Rattle.report_checker.proofs.checks.tells_stack.Goals as goal

pub stack-requires-clause-variants : goal.stack-requires-clause-variants
stack-requires-clause-variants c =
    variants-given c.args.plan.now.order c.args.given c.args.plan.now.layers c.args.variants.now c.requires.given c.requires.listed

pub returns : goal.returns
returns c =
    let k = stack-told c.args.plan.now c.args.given c.args.variants.now c.in_ok-answer.answer c.requires.given c.requires.listed c.in_ok-answer.ensures.stack c.in_ok-answer.ensures.only in
    (λ t. k.0 (c.is_same.ensures.0 t), λ h. c.is_same.ensures.1 (k.1 h))
