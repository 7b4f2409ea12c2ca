use Rattle.std.proofs.Common.{◌≡◌, ◌∙◌, Some, None, ap}
use Rattle.csv.specs.Records.{fields_of}
use Rattle.order_reader.specs.Orders.{OrderValue}
use Rattle.order_reader.specs.Faults.{order_fault, id_in}
use Rattle.order_reader.specs.declared.rows.Row.TheVariants.{Order}
use Rattle.case_design.specs.Laws.{size_order}
use Rattle.case_design.proofs.SizeOrders.{row_by_fault}
use Rattle.case_design.proofs.sizes.size_row.Goals as goal

pub returns-in-Ok : goal.returns-in-Ok
returns-in-Ok c =
    let row = fields_of c.args.row.now in
    let same : c.in-Ok.order ≡ size_order (id_in row) c.args.brief.now c.args.size = rw c.id_of.ensures at c.in-Ok.ensures.same in
    let passes : order_fault (size_order (id_in row) c.args.brief.now c.args.size) ≡ None = rw c.id_of.ensures at c.in-Ok.ensures.order.passes in
    ap (λ (o : OrderValue). Order o) same ∙ row_by_fault row c.args.brief.now c.args.number c.args.size None c.requires.brief c.requires.size passes

pub returns-in-Err-Fault : goal.returns-in-Err-Fault
returns-in-Err-Fault c =
    let row = fields_of c.args.row.now in
    let told : order_fault (size_order (id_in row) c.args.brief.now c.args.size) ≡ Some c.in-Err-Fault.fault = rw (c.id_of.ensures, c.in-Err-Fault.field-0-is) at c.in-Err-Fault.ensures.fault in
    row_by_fault row c.args.brief.now c.args.number c.args.size (Some c.in-Err-Fault.fault) c.requires.brief c.requires.size told
