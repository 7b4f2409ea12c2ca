use Rattle.std.proofs.Common.{◌≤◌, subst}
use Rattle.std.specs.Prelude.{slice_index}
use Rattle.order_reader.specs.Columns.{place_of}
use Rattle.order_reader.specs.Orders.{OrderValue, order_with}
use Rattle.order_reader.specs.Faults.{greatest_in, greatest_gap_of}
use Rattle.order_reader.proofs.OrderFacts.{passes}
use Rattle.order_reader.proofs.orders.Order.number.Goals as goal

pub returns-clause-least : goal.returns-clause-least
returns-clause-least c =
    rw c.place.ensures ((passes (order_with c.self.inside.name.items c.self.inside.values) c.self.invariant).ranges c.args.field).0

pub returns-clause-greatest : goal.returns-clause-greatest
returns-clause-greatest c =
    let own = ((passes (order_with c.self.inside.name.items c.self.inside.values) c.self.invariant).ranges c.args.field).1 in
    rw c.place.ensures (subst (λ (o : OrderValue). slice_index c.self.inside.values (place_of c.args.field) ≤ greatest_in (greatest_gap_of o) c.args.field) c.self.view_is own)
