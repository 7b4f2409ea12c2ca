use Rattle.std.proofs.Common.{refl, sym, ap, ◌∙◌, arith, ℕ}
use Rattle.floor_text.specs.Cursors.{rows_in}
use Rattle.floor_text.proofs.TakenRows.{none_left, next_ahead, no_next_fault}
use Rattle.floor_text.proofs.cursors.Rows.next.Goals as goal

pub returns-then-self-eq0 : goal.returns-then-self-eq0
returns-then-self-eq0 c =
    let s = c.self.inside in
    (sym c.self.view_is ∙ ap (λ (n : ℕ). rows_in n s.before s.rest.now) c.if-self-eq0.true ∙ none_left s.before s.rest.now, refl)

pub invariant_of-self : goal.invariant_of-self
invariant_of-self c =
    let s = c.self.inside in
    let some = c.if-self-eq0.false in
    (next_ahead s.left s.before s.rest.now c.in-Ok.rest.now c.in-Ok.row (omega arith) c.self.invariant c.in-Ok.ensures.read).in_front

pub unreachable-requires : goal.unreachable-requires
unreachable-requires c =
    let s = c.self.inside in
    let some = c.if-self-eq0.false in
    no_next_fault s.left s.before s.rest.now _ (omega arith) c.self.invariant (rw c.in-Err-Left.field-0-is at c.in-Err-Left.ensures.read)

pub returns-in-Ok : goal.returns-in-Ok
returns-in-Ok c =
    let s = c.self.inside in
    let some = c.if-self-eq0.false in
    sym c.self.view_is ∙ (next_ahead s.left s.before s.rest.now c.in-Ok.rest.now c.in-Ok.row (omega arith) c.self.invariant c.in-Ok.ensures.read).are
