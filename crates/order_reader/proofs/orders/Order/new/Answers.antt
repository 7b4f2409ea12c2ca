use Rattle.std.proofs.Common.{◌≡◌, ◌∙◌, sym, true}
use Rattle.order_reader.specs.Faults.{is_id}
use Rattle.order_reader.proofs.OrderFacts.{numbers-of_order}
use Rattle.order_reader.proofs.orders.Order.new.Goals as goal

pub returns-in-Some-clause-fault : goal.returns-in-Some-clause-fault
returns-in-Some-clause-fault c =
    let good : is_id c.args.id.now ≡ true = sym c.is_id.ensures ∙ c.if-not-is_id.false in
    sym (numbers-of_order c.args.id.now c.args.numbers c.widened.result good c.widened.ensures) ∙ sym c.fault_of_numbers.ensures ∙ c.in-Some.is
