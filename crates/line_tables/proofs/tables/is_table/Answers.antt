use Rattle.std.proofs.Common.{◌≡◌, ◌≤◌, false, true, length, sym, ◌∙◌, arith}
use Rattle.std.proofs.lemmas.Nat.{mul-le}
use Rattle.line_tables.proofs.LineSteps.{lines-few}
use Rattle.line_tables.proofs.tables.is_table.Goals as goal
use Rattle.line_tables.proofs.tables.is_table.Goals.{then-are_lines, else-are_lines}

pub overflow_mul-div_ceil : goal.overflow_mul-div_ceil
overflow_mul-div_ceil c =
    elim c.if-are_lines.branch [
      | then-are_lines w ↦
          let a : length c.args.columns.now ≤ 4000 = lines-few c.args.columns.now (c.are_lines.ensures.0 w.if-are_lines.true) in
          let b : length c.args.rows.now ≤ 4000 = lines-few c.args.rows.now (w.are_lines-then-are_lines.ensures.0 (sym w.value-is ∙ c.if-are_lines-2.true)) in
          omega (arith, c.div_ceil.ensures, c.div_ceil-then-are_lines-2.ensures, mul-le c.div_ceil.result c.div_ceil-then-are_lines-2.result 2000 2000 (omega (arith, c.div_ceil.ensures)) (omega (arith, c.div_ceil-then-are_lines-2.ensures)))
      | else-are_lines w ↦ absurd (let bad : false ≡ true → ⊥ = λ d. cc in bad (sym w.if-are_lines.false ∙ (sym w.value-is ∙ c.if-are_lines-2.true)))
    ]
