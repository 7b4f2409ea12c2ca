use Rattle.case_design.proofs.SizeOrders.{size_rows_of_sides}
use Rattle.case_design.proofs.laws.size_rows_are_orders.Goals as goal

pub returns : goal.returns
returns c = size_rows_of_sides
