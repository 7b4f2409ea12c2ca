use Rattle.order_reader.specs.Orders.{order_with}
use Rattle.order_reader.proofs.OrderFacts.{passes, id-holds, plain-each}
use Rattle.order_reader.proofs.orders.Order.id.Goals as goal

pub returns-clause-some : goal.returns-clause-some
returns-clause-some c =
    let id = id-holds c.self.inside.name.items (passes (order_with c.self.inside.name.items c.self.inside.values) c.self.invariant).id in
    rw c.deref.ensures.value id.some

pub returns-clause-few : goal.returns-clause-few
returns-clause-few c =
    let id = id-holds c.self.inside.name.items (passes (order_with c.self.inside.name.items c.self.inside.values) c.self.invariant).id in
    rw c.deref.ensures.value id.few

pub returns-clause-plain : goal.returns-clause-plain
returns-clause-plain c =
    let id = id-holds c.self.inside.name.items (passes (order_with c.self.inside.name.items c.self.inside.values) c.self.invariant).id in
    rw c.deref.ensures.value (plain-each c.self.inside.name.items id.plain)
