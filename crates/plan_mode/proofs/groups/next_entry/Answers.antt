use Rattle.std.proofs.Common.{◌≡◌, ◌∷◌, ◌∙◌, sym, subst}
use Rattle.plan_mode.specs.Groups.{AreNextEntries}
use Rattle.plan_mode.proofs.Grouped.{next-first, next-others}
use Rattle.plan_mode.proofs.groups.next_entry.Goals as goal
use Rattle.plan_mode.proofs.groups.next_entry.Goals.{then-is_empty+in_ok-ahead, else-is_empty}

pub returns-clause-entry : goal.returns-clause-entry
returns-clause-entry g c =
    let left = c.pop_front.new.self.items in
    let e = c.in-Some.entry in
    let first : c.if-is_empty.ahead.items ≡ e ∷ left = c.in-Some.ensures.items in
    let all : AreNextEntries c.args.number c.args.rows.now c.if-is_empty.ahead.items =
    elim c.if-is_empty.branch [
      | then-is_empty+in_ok-ahead w ↦ rw w.ahead-is w.in_ok-ahead.ensures.next
      | else-is_empty w ↦ rw w.ahead-is c.requires.ahead
    ] in
    next-first c.args.number c.args.rows.now e left c.requires.first c.requires.place (rw first at all)

pub returns-clause-ahead : goal.returns-clause-ahead
returns-clause-ahead g c =
    let left = c.pop_front.new.self.items in
    let e = c.in-Some.entry in
    let first : c.if-is_empty.ahead.items ≡ e ∷ left = c.in-Some.ensures.items in
    let all : AreNextEntries c.args.number c.args.rows.now c.if-is_empty.ahead.items =
    elim c.if-is_empty.branch [
      | then-is_empty+in_ok-ahead w ↦ rw w.ahead-is w.in_ok-ahead.ensures.next
      | else-is_empty w ↦ rw w.ahead-is c.requires.ahead
    ] in
    next-others c.args.number c.args.rows.now e left c.requires.first c.requires.place (rw first at all)
