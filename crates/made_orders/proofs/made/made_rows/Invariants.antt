use Rattle.std.proofs.Common.{◌≡◌, ◌*◌}
use Rattle.made_orders.specs.Draws.{state_after}
use Rattle.made_orders.specs.Made.{first_made_rows}
use Rattle.made_orders.proofs.made.made_rows.Given as goal

abbrev pub invariant-loop-place : goal.invariant-loop-place
invariant-loop-place l = record {
  state : l.generator.state ≡ state_after l.fn.number (6 * l.place);
  rows : l.rows.items ≡ first_made_rows l.fn.number l.place;
}
