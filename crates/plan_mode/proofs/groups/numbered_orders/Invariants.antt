use Rattle.std.proofs.Common.{◌≡◌, ◌+◌, ◌++◌, drop}
use Rattle.plan_mode.specs.Groups.{orders_from}
use Rattle.plan_mode.proofs.groups.numbered_orders.Given as goal

abbrev pub invariant-loop-row : goal.invariant-loop-row
invariant-loop-row l = record {
  number : l.number ≡ l.first + l.row-index;
  orders : l.orders.items ++ orders_from l.number (drop l.row-index l.rows) ≡ orders_from l.first l.rows;
}
