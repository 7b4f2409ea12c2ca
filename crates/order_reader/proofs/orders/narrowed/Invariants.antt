use Rattle.std.proofs.Common.{◌≡◌, take, length}
use Rattle.order_reader.proofs.orders.narrowed.Given as goal

abbrev pub invariant-loop-place : goal.invariant-loop-place
invariant-loop-place l = (length l.narrow ≡ 12) × (take l.place l.narrow ≡ take l.place l.fn.numbers)
