use Rattle.std.proofs.Common.{◌≡◌, length, ap, ◌∙◌, sym, arith}
use Rattle.line_tables.specs.Sums.{first_weights}
use Rattle.line_tables.proofs.BlockSteps.{total-crossings}
use Rattle.line_tables.proofs.SumSteps.{first_weights-small}
use Rattle.line_tables.proofs.tables.LineTable.total.Goals as goal

-- the last of the sums is that of all crossings
read : (c : goal.After-first_weight) → c.first_weight.result ≡ first_weights c.args.self.now (length c.args.self.now.columns) (length c.args.self.now.rows)
read c =
    let t = c.args.self.now in
    c.first_weight.ensures ∙ ap (λ xs. first_weights t (length xs) (length c.rows.result.now)) c.columns.ensures.value ∙ ap (λ xs. first_weights t (length t.columns) (length xs)) c.rows.ensures.value

pub returns-clause-value : goal.returns-clause-value
returns-clause-value c =
    λ I b. read c ∙ sym (total-crossings c.args.self.now I c.columns.ensures.table b)

pub returns-clause-small : goal.returns-clause-small
returns-clause-small c =
    let t = c.args.self.now in
    omega (arith, read c, first_weights-small t (length t.columns) (length t.rows) c.columns.ensures.table (omega arith) (omega arith))
