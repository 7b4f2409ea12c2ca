use Rattle.std.proofs.Common.{ℕ, ◌-◌, length, Some, sym, ap, ◌∙◌}
use Rattle.truck_floor.specs.declared.totals.TotalLine.{TotalLine}
use Rattle.truck_floor.proofs.TotalLines.{shorter, found, only_found, none_read, none_whole}
use Rattle.truck_floor.proofs.readers.get_total.Goals as goal

pub returns-in_err-first-clause-only : goal.returns-in_err-first-clause-only
returns-in_err-first-clause-only c = λ line len front. absurd (none_whole c.args.bytes.now line len c.in_err-first.ensures front)

pub returns-in_err-line-clause-only : goal.returns-in_err-line-clause-only
returns-in_err-line-clause-only c = λ line len front. absurd (none_read c.args.bytes.now c.in_ok-first.first.now c.in_ok-first.rest.now line len c.in_ok-first.ensures (sym c.in_err-line.ensures) front)

pub overflow_sub-result : goal.overflow_sub-result
overflow_sub-result c = shorter c.args.bytes.now c.in_ok-first.first.now c.in_ok-first.rest.now c.in_ok-first.ensures

pub returns-clause-found : goal.returns-clause-found
returns-clause-found c = found c.args.bytes.now c.in_ok-first.first.now c.in_ok-first.rest.now c.in_ok-line.line c.in_ok-first.ensures (sym c.in_ok-line.ensures)

pub returns-clause-only : goal.returns-clause-only
returns-clause-only c = λ line len front.
    let one = only_found c.args.bytes.now c.in_ok-first.first.now c.in_ok-first.rest.now c.in_ok-line.line line len c.in_ok-first.ensures (sym c.in_ok-line.ensures) front in
    ap (λ (t : TotalLine). Some (t, length c.args.bytes.now - length c.in_ok-first.rest.now)) one.0 ∙ ap (λ (n : ℕ). Some (line, n)) one.1
