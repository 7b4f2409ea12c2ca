use Rattle.std.proofs.Common.{◌≡◌, ◌∙◌, sym, None}
use Rattle.csv.specs.Records.{fields_of}
use Rattle.order_reader.specs.Faults.{order_in, row_fault, IsOrder}
use Rattle.order_reader.proofs.OrderFacts.{passes, number-limited}
use Rattle.order_reader.proofs.RowFacts.{row-order, numbers-twelve}
use Rattle.order_reader.proofs.orders.order_of.Goals as goal

pub narrowed-requires : goal.narrowed-requires
narrowed-requires c =
    let fields = fields_of c.args.fields.now in
    let none : row_fault c.args.columns.now fields ≡ None = sym c.fault_of_row.ensures ∙ c.in_default.is in
    let order : IsOrder (order_in fields) = record { twelve = numbers-twelve fields; passes = row-order c.args.columns.now fields none } in
    rw c.numbers_of-numbers.ensures (number-limited (order_in fields) (passes (order_in fields) order).ranges (numbers-twelve fields))
