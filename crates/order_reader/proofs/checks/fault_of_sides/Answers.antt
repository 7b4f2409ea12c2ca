use Rattle.std.proofs.Common.{[], arith}
use Rattle.order_reader.specs.Orders.{order_with}
use Rattle.order_reader.proofs.OrderFacts.{ranges-hold, sides-hold}
use Rattle.order_reader.proofs.checks.fault_of_sides.Goals as goal

pub overflow_add-pallet_x : goal.overflow_add-pallet_x
overflow_add-pallet_x c =
    let o = order_with [] c.args.numbers.now in
    let sides = sides-hold o (ranges-hold o c.requires) in
    omega arith

pub overflow_add-pallet_y : goal.overflow_add-pallet_y
overflow_add-pallet_y c =
    let o = order_with [] c.args.numbers.now in
    let sides = sides-hold o (ranges-hold o c.requires) in
    omega arith

pub overflow_add-long : goal.overflow_add-long
overflow_add-long c =
    let o = order_with [] c.args.numbers.now in
    let sides = sides-hold o (ranges-hold o c.requires) in
    omega arith

pub overflow_add-short : goal.overflow_add-short
overflow_add-short c =
    let o = order_with [] c.args.numbers.now in
    let sides = sides-hold o (ranges-hold o c.requires) in
    omega arith

pub is_few-requires-clause-pallet_x : goal.is_few-requires-clause-pallet_x
is_few-requires-clause-pallet_x c =
    let o = order_with [] c.args.numbers.now in
    let sides = sides-hold o (ranges-hold o c.requires) in
    omega arith

pub is_few-requires-clause-pallet_y : goal.is_few-requires-clause-pallet_y
is_few-requires-clause-pallet_y c =
    let o = order_with [] c.args.numbers.now in
    let sides = sides-hold o (ranges-hold o c.requires) in
    omega arith

pub is_few-requires-clause-long : goal.is_few-requires-clause-long
is_few-requires-clause-long c =
    let o = order_with [] c.args.numbers.now in
    let sides = sides-hold o (ranges-hold o c.requires) in
    (omega arith, omega arith)

pub is_few-requires-clause-short : goal.is_few-requires-clause-short
is_few-requires-clause-short c =
    let o = order_with [] c.args.numbers.now in
    let sides = sides-hold o (ranges-hold o c.requires) in
    (omega arith, omega arith)
