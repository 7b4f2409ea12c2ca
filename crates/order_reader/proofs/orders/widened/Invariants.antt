use Rattle.std.proofs.Common.{◌≡◌, take, length}
use Rattle.order_reader.proofs.orders.widened.Given as goal

abbrev pub invariant-loop-place : goal.invariant-loop-place
invariant-loop-place l = (length l.wide ≡ 12) × (take l.place l.wide ≡ take l.place l.fn.numbers)
