use Rattle.std.proofs.Common.{◌≡◌, ◌+◌, ◌-◌, ◌≤◌, ◌∙◌, List, length, take, drop, sym, subst, ap, arith}
use Rattle.std.specs.List.{All}
use Rattle.std.proofs.lemmas.Result.{IfOk-weaker}
use Rattle.order_reader.specs.declared.rows.Row.{Row}
use Rattle.par_judge.specs.declared.plans.Numbered.{Numbered}
use Rattle.par_judge.specs.Planned.{IsNumbered}
use Rattle.plan_mode.specs.Entries.{AreEntriesFrom}
use Rattle.plan_mode.specs.Groups.{orders_from, AreNextEntries}
use Rattle.plan_mode.proofs.Grouped.{orders-numbered, orders-few, take-few, next-of}
use Rattle.plan_mode.proofs.groups.next_group.Goals as goal

pub plan_through-requires-clause-few : goal.plan_through-requires-clause-few
plan_through-requires-clause-few g c = λ κs within.
    let n = c.args.number in
    let size = c.min-end.result - (n - 1) in
    let group = take size (drop (n - 1) c.args.rows.now) in
    let same : c.deref.result.now ≡ orders_from n group = c.deref.ensures.value ∙ c.in_ok-orders.ensures.value in
    omega (arith, ap length same, orders-few n group, take-few size (drop (n - 1) c.args.rows.now), c.min-end.ensures, c.requires.limited)

pub plan_through-requires-clause-numbers : goal.plan_through-requires-clause-numbers
plan_through-requires-clause-numbers g c = λ κs within.
    let n = c.args.number in
    let size = c.min-end.result - (n - 1) in
    let group = take size (drop (n - 1) c.args.rows.now) in
    let same : c.deref.result.now ≡ orders_from n group = c.deref.ensures.value ∙ c.in_ok-orders.ensures.value in
    let high : n + length group ≤ 257 = omega (arith, take-few size (drop (n - 1) c.args.rows.now), c.min-end.ensures, c.requires.few, c.requires.place) in
    subst (λ (orders : List Numbered). All IsNumbered orders) (sym same) (orders-numbered n group c.requires.first high)

pub returns-clause-next : goal.returns-clause-next
returns-clause-next g c =
    let n = c.args.number in
    let size = c.min-end.result - (n - 1) in
    IfOk-weaker c.entries_with.result (λ es. AreEntriesFrom n (take size (drop (n - 1) c.args.rows.now)) es.items) (λ es. AreNextEntries n c.args.rows.now es.items) (λ es are. next-of n size c.args.rows.now es.items are) c.entries_with.ensures
