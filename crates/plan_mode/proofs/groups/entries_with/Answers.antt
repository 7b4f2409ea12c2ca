use Rattle.std.proofs.Common.{◌≡◌, ◌+◌, ◌∷◌, ◌++◌, ◌∙◌, [], List, take, drop, length, ap, sym, subst, arith}
use Rattle.std.proofs.lemmas.List.{take_more, drop_more, length-take-le}
use Rattle.order_reader.specs.declared.rows.Row.{Row}
use Rattle.par_judge.specs.Planned.{ArePlansOf}
use Rattle.plan_mode.specs.Entries.{IsEntryOf, AreEntriesFrom}
use Rattle.plan_mode.specs.Groups.{orders_from}
use Rattle.plan_mode.proofs.EntryFacts.{entries-more}
use Rattle.plan_mode.proofs.groups.entries_with.Goals as goal

pub loop-row-preserved : goal.loop-row-preserved
loop-row-preserved c =
    let rows = c.args.rows.now in
    let i = c.loop-row.row-index in
    let row = c.row-item.result in
    let e = c.entry_with.result in
    let es = c.loop-row.entries.items in
    let left : drop i rows ≡ row ∷ drop (i + 1) rows = drop_more rows i row c.loop-row-test.true ∙ ap (λ (r : Row). r ∷ drop (i + 1) rows) (sym c.row-item.is) in
    let taken : take (i + 1) rows ≡ take i rows ++ row ∷ [] = take_more rows i row c.loop-row-test.true ∙ ap (λ (r : Row). take i rows ++ r ∷ []) (sym c.row-item.is) in
    let count : c.loop-row.number ≡ c.args.first + length (take i rows) = omega (arith, c.loop-row.invariant.number, length-take-le i rows (omega (arith, c.loop-row-test.true))) in
    let here : IsEntryOf (c.args.first + length (take i rows)) row e = subst (λ n. IsEntryOf n row e) count c.entry_with.ensures.entry in
    let plans : ArePlansOf (orders_from c.loop-row.number (row ∷ drop (i + 1) rows)) c.loop-row.plans.items = subst (λ rs. ArePlansOf (orders_from c.loop-row.number rs) c.loop-row.plans.items) left c.loop-row.invariant.plans in
    record {
      number = omega (arith, c.loop-row.invariant.number);
      entries = rw (c.in_ok-push.ensures.items, taken) (entries-more c.args.first (take i rows) es row e c.loop-row.invariant.entries here);
      plans = c.entry_with.ensures.plans (drop (i + 1) rows) plans;
    }
