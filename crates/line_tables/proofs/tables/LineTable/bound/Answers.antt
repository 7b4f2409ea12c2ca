use Rattle.std.proofs.Common.{sym}
use Rattle.line_tables.specs.Lines.{weight_at}
use Rattle.line_tables.proofs.tables.LineTable.bound.Goals as goal

pub returns-else-least-eq0-clause-bounds : goal.returns-else-least-eq0-clause-bounds
returns-else-least-eq0-clause-bounds c =
    let a = c.args in
    c.weight_bound.ensures.bounds a.inst (weight_at a.self.now) (sym (c.total.ensures.value a.inst c.requires.belongs)) (λ s inside lawful. c.least-least.ensures.bound s (inside, lawful))
