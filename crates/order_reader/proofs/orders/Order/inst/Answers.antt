use Rattle.std.proofs.Common.{rules, ◌≤◌, ◌+◌}
use Rattle.order_reader.specs.Instances.{IsGivenOf}
use Rattle.order_reader.proofs.OrderFacts.{passes, sides-hold, long-limited}
use Rattle.order_reader.proofs.InstFacts.{given-small, layouts-each, bounds-each, layers-are, bounds-are}
use Rattle.order_reader.proofs.orders.Order.inst.Goals as goal

pub unreachable-requires : goal.unreachable-requires
unreachable-requires c =
    let o = c.args.self.now in
    let sides = sides-hold o (passes o c.real.ensures.order).ranges in
    let real = c.real.ensures.real in
    let gap = c.gap.ensures.gap in
    let x : c.real.result.l_side + c.gap.result ≤ 4000 = rw (real.l_side, gap) sides.pallet_x_max in
    let y : c.real.result.w_side + c.gap.result ≤ 4000 = rw (real.w_side, gap) sides.pallet_y_max in
    let l : c.real.result.long + c.gap.result ≤ 4000 = rw (real.long, gap) (long-limited o c.real.ensures.order) in
    let some = c.in-None.ensures.accepted.1 (x, y, l) in
    cc

pub returns-clause-few : goal.returns-clause-few
returns-clause-few c =
    let given : IsGivenOf c.args.self.now c.in-Some.inst = search rules in
    given-small c.args.self.now c.in-Some.inst c.real.ensures.order given

pub returns-clause-same_layouts : goal.returns-clause-same_layouts
returns-clause-same_layouts c = layouts-each c.args.self.now c.real.result c.in-Some.inst c.gap.result c.gap.ensures.gap c.real.ensures.only c.in-Some.ensures.layouts

pub returns-clause-same_bounds : goal.returns-clause-same_bounds
returns-clause-same_bounds c = bounds-each c.args.self.now c.real.result c.in-Some.inst c.gap.result c.gap.ensures.gap c.real.ensures.only c.in-Some.ensures.bounds

pub returns-clause-layers : goal.returns-clause-layers
returns-clause-layers c =
    layers-are c.args.self.now c.real.result c.in-Some.inst c.real.ensures.real
    (layouts-each c.args.self.now c.real.result c.in-Some.inst c.gap.result c.gap.ensures.gap c.real.ensures.only c.in-Some.ensures.layouts)

pub returns-clause-bounds : goal.returns-clause-bounds
returns-clause-bounds c =
    bounds-are c.args.self.now c.real.result c.in-Some.inst c.real.ensures.real
    (bounds-each c.args.self.now c.real.result c.in-Some.inst c.gap.result c.gap.ensures.gap c.real.ensures.only c.in-Some.ensures.bounds)
