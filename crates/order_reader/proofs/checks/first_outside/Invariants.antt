use Rattle.std.proofs.Common.{◌≡◌, drop, []}
use Rattle.std.specs.Prelude.{find, not}
use Rattle.order_reader.specs.Orders.{order_with}
use Rattle.order_reader.specs.Faults.{is_in_range}
use Rattle.order_reader.proofs.checks.first_outside.Given as goal

abbrev pub invariant-loop-field : goal.invariant-loop-field
invariant-loop-field l = find (λ field. not (is_in_range (order_with [] l.fn.numbers) field)) l.columns ≡ find (λ field. not (is_in_range (order_with [] l.fn.numbers) field)) (drop l.field-index l.columns)
