use Rattle.std.proofs.Common.{◌≡◌, ◌∙◌, ◌+◌, ◌*◌, ℕ, List, ◌++◌, [], ◌∷◌, ap, ap₂, sym, arith}
use Rattle.order_reader.specs.Orders.{OrderValue, order_with}
use Rattle.order_reader.specs.declared.rows.Row.{Row}
use Rattle.order_reader.specs.declared.rows.Row.TheVariants as row
use Rattle.made_orders.specs.Draws.{state_after}
use Rattle.made_orders.specs.Made.{made_id, made_numbers, made_order}
use Rattle.made_orders.proofs.Accepted.{first_made_rows-more, rows-accepted, state_after-more}
use Rattle.made_orders.proofs.made.made_rows.Goals as goal

pub returns-in_err-order-clause-accepted : goal.returns-in_err-order-clause-accepted
returns-in_err-order-clause-accepted c = rows-accepted c.args.number

pub returns-in_err-push-clause-accepted : goal.returns-in_err-push-clause-accepted
returns-in_err-push-clause-accepted c = rows-accepted c.args.number

pub returns-clause-accepted : goal.returns-clause-accepted
returns-clause-accepted c = rows-accepted c.args.number

pub loop-place-preserved : goal.loop-place-preserved
loop-place-preserved c =
    let later : 6 * c.loop-place.place + 6 ≡ 6 * (c.loop-place.place + 1) = omega arith in
    let order : c.in_ok-order.order ≡ made_order c.args.number c.loop-place.place =
    c.in_ok-order.ensures.order ∙ ap (λ (s : ℕ). order_with (made_id (c.loop-place.place + 1)) (made_numbers s)) c.loop-place.invariant.state in
    record {
      state = c.in_ok-order.ensures.state ∙ ap (λ (s : ℕ). state_after s 6) c.loop-place.invariant.state
          ∙ state_after-more c.args.number (6 * c.loop-place.place) 6 ∙ ap (state_after c.args.number) later;
      rows = c.in_ok-push.ensures.items
          ∙ ap₂ (λ (rows : List Row) (o : OrderValue). rows ++ row.Order o ∷ []) c.loop-place.invariant.rows order
          ∙ sym (first_made_rows-more c.args.number c.loop-place.place);
    }
