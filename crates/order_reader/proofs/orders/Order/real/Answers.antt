use Rattle.std.proofs.Common.{rules}
use Rattle.order_reader.specs.Instances.{IsRealOf}
use Rattle.order_reader.proofs.InstFacts.{real-fits}
use Rattle.order_reader.proofs.orders.Order.real.Goals as goal

pub returns-clause-fits : goal.returns-clause-fits
returns-clause-fits c =
    let real : IsRealOf c.args.self.now c.in-Some.inst = search rules in
    real-fits c.args.self.now c.in-Some.inst c.number-case_x.ensures.order real
