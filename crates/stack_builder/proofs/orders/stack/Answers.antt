use Rattle.std.proofs.Common.{◌≡◌, ◌∙◌, sym, subst}
use Rattle.contact_rules.specs.Real.{IsGapOf}
use Rattle.order_reader.specs.Orders.{gap_of}
use Rattle.stack_builder.specs.Orders.{rules_of}
use Rattle.stack_builder.proofs.OrderSteps.{given-gap, given-variants, stack-of-answer, answer-read}
use Rattle.stack_builder.proofs.orders.stack.Goals as goal

pub stack_under-requires-clause-gap : goal.stack_under-requires-clause-gap
stack_under-requires-clause-gap c =
    subst (λ g. IsGapOf c.inst.result g) (sym c.gap.ensures.gap) (given-gap c.args.order.now c.inst.result c.inst.ensures.order c.inst.ensures.given)

pub stack_under-requires-clause-variants : goal.stack_under-requires-clause-variants
stack_under-requires-clause-variants c =
    given-variants c.args.order.now c.inst.result c.args.variants.now c.inst.ensures.given c.requires.variants

pub returns-clause-stack : goal.returns-clause-stack
returns-clause-stack c =
    let o = c.args.order.now in
    let e : c.as_slice.result.now ≡ rules_of o = c.as_slice.ensures.value ∙ c.in_ok-rules.ensures.rules in
    record {
      inst = c.inst.result;
      given = c.inst.ensures.given;
      right = answer-read c.inst.result c.gap.result (gap_of o) c.as_slice.result.now (rules_of o) c.args.variants.now c.args.n c.in_ok-answer.answer c.gap.ensures.gap e c.in_ok-answer.ensures.answer;
    }

pub returns-clause-only : goal.returns-clause-only
returns-clause-only c = λ other h.
    let o = c.args.order.now in
    let e : c.as_slice.result.now ≡ rules_of o = c.as_slice.ensures.value ∙ c.in_ok-rules.ensures.rules in
    let right = stack-of-answer o c.inst.result c.args.variants.now c.args.n other c.inst.ensures.given h in
    c.in_ok-answer.ensures.only other (answer-read c.inst.result (gap_of o) c.gap.result (rules_of o) c.as_slice.result.now c.args.variants.now c.args.n other (sym c.gap.ensures.gap) (sym e) right)
