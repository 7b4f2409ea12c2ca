use Rattle.std.proofs.Common.{◌∙◌, ap₂, arith}
use Rattle.order_reader.specs.Orders.{order_with}
use Rattle.made_orders.proofs.Accepted.{made-is-order, no-fault}
use Rattle.made_orders.proofs.made.made_order.Goals as goal

pub unreachable-requires : goal.unreachable-requires
unreachable-requires c =
    no-fault _ _ _ _ (ap₂ order_with (c.deref.ensures.value ∙ c.in_ok-id.ensures) c.made_numbers.ensures.numbers)
    (made-is-order c.args.number c.args.generator.now.state (omega (arith, c.requires))) c.in-Err-Fault.field-0-is c.in-Err-Fault.ensures.fault
