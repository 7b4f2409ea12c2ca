use Rattle.std.proofs.Common.{◌≡◌, List, IfOk, subst}
use Rattle.order_reader.specs.Orders.{contact_of, support_of, cut_of}
use Rattle.contact_rules.specs.declared.rules.Rule.{Rule}
use Rattle.stack_builder.proofs.OrderSteps.{asked-same}
use Rattle.stack_builder.proofs.orders.order_rules.Goals as goal

pub returns-clause-rules : goal.returns-clause-rules
returns-clause-rules c =
    let o = c.args.order.now in
    subst (λ (rs : List Rule). IfOk c.asked.result (λ r. r.items ≡ rs)) (asked-same c.number.result c.number-2.result c.number-3.result (contact_of o) (support_of o) (cut_of o) c.number.ensures.number c.number-2.ensures.number c.number-3.ensures.number) c.asked.ensures.rules
