use Rattle.std.proofs.Common.{◌+◌, ◌/◌, ◌%◌, length, sym, ap, ◌∙◌, inl, inr, arith}
use Rattle.line_tables.specs.Lines.{Lines}
use Rattle.line_tables.specs.Sums.{first_weights}
use Rattle.line_tables.proofs.SumSteps.{NextSum, next-sum, first_weights-no_row}
use Rattle.line_tables.proofs.sums.next_sum.Goals as goal

pub returns-then-i-eq0 : goal.returns-then-i-eq0
returns-then-i-eq0 c =
    let t : Lines = record { columns = c.args.columns.now; rows = c.args.rows.now; quarter = c.args.quarter.now } in
    let i = c.args.n % (length t.columns + 1) in
    let j = c.args.n / (length t.columns + 1) in
    elim c.then-i-eq0.either [
      | inl e ↦ sym (ap (λ k. first_weights t k j) e)
      | inr h ↦ sym (ap (λ k. first_weights t i k) h.1 ∙ first_weights-no_row t i)
    ]

pub overflow_sub-row-4 : goal.overflow_sub-row-4
overflow_sub-row-4 c =
    let t : Lines = record { columns = c.args.columns.now; rows = c.args.rows.now; quarter = c.args.quarter.now } in
    (next-sum t c.args.n c.args.sums.now c.requires.table c.requires.summed c.requires.place c.if-i-eq0.false c.if-j-eq0.false).rises

pub overflow_add-result : goal.overflow_add-result
overflow_add-result c =
    let t : Lines = record { columns = c.args.columns.now; rows = c.args.rows.now; quarter = c.args.quarter.now } in
    let s : NextSum t c.args.n c.args.sums.now = next-sum t c.args.n c.args.sums.now c.requires.table c.requires.summed c.requires.place c.if-i-eq0.false c.if-j-eq0.false in
    omega (arith, s.value, s.small)

pub overflow_add-result-2 : goal.overflow_add-result-2
overflow_add-result-2 c =
    let t : Lines = record { columns = c.args.columns.now; rows = c.args.rows.now; quarter = c.args.quarter.now } in
    let s : NextSum t c.args.n c.args.sums.now = next-sum t c.args.n c.args.sums.now c.requires.table c.requires.summed c.requires.place c.if-i-eq0.false c.if-j-eq0.false in
    omega (arith, s.value, s.small, c.from.ensures, c.weight_of_crossing-weight.ensures.value)

pub returns : goal.returns
returns c =
    let t : Lines = record { columns = c.args.columns.now; rows = c.args.rows.now; quarter = c.args.quarter.now } in
    let s : NextSum t c.args.n c.args.sums.now = next-sum t c.args.n c.args.sums.now c.requires.table c.requires.summed c.requires.place c.if-i-eq0.false c.if-j-eq0.false in
    omega (arith, s.value, c.from.ensures, c.weight_of_crossing-weight.ensures.value)
