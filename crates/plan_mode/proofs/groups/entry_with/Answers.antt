use Rattle.std.proofs.Common.{◌≡◌, ◌+◌, ◌∷◌, ◌∙◌, List, subst, sym, rules}
use Rattle.plan_entries.specs.declared.entries.Plan.{Plan}
use Rattle.order_reader.specs.declared.rows.Row.{Row}
use Rattle.order_reader.specs.declared.rows.Row.TheVariants as row
use Rattle.plan_entries.specs.declared.entries.Entry.TheVariants.{Planned}
use Rattle.par_judge.specs.Planned.{ArePlansOf}
use Rattle.plan_mode.specs.Entries.{IsEntryOf}
use Rattle.plan_mode.specs.Groups.{orders_from}
use Rattle.plan_mode.proofs.Grouped.{first-plan, other-plans}
use Rattle.plan_mode.proofs.groups.entry_with.Goals as goal

pub returns-in-Some-clause-entry : goal.returns-in-Some-clause-entry
returns-in-Some-clause-entry c =
    let (rows, are) = c.requires.plans in
    let o = c.in-Order.field-0 in
    let p = c.in-Some.plan in
    let left = c.pop_front.new.self.items in
    let first : c.args.plans.now.items ≡ p ∷ left = search rules in
    let there : ArePlansOf (orders_from c.args.number (row.Order o ∷ rows)) (p ∷ left) = rw (c.in-Order.is, first) at are in
    subst (λ r. IsEntryOf c.args.number r (Planned p)) (sym c.in-Order.is) (first-plan c.args.number o rows p left there)

pub returns-in-Some-clause-plans : goal.returns-in-Some-clause-plans
returns-in-Some-clause-plans c = λ rows are.
    let o = c.in-Order.field-0 in
    let p = c.in-Some.plan in
    let left = c.pop_front.new.self.items in
    let first : c.args.plans.now.items ≡ p ∷ left = search rules in
    let there : ArePlansOf (orders_from c.args.number (row.Order o ∷ rows)) (p ∷ left) = rw (c.in-Order.is, first) at are in
    other-plans c.args.number o rows p left there
