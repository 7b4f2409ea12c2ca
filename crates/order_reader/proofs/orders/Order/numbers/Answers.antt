use Rattle.order_reader.specs.Orders.{order_with}
use Rattle.order_reader.proofs.OrderFacts.{passes, number-limited}
use Rattle.order_reader.proofs.orders.Order.numbers.Goals as goal

pub returns-clause-small : goal.returns-clause-small
returns-clause-small c = number-limited (order_with c.self.inside.name.items c.self.inside.values) (passes (order_with c.self.inside.name.items c.self.inside.values) c.self.invariant).ranges c.self.invariant.twelve
