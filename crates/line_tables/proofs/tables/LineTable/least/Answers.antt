use Rattle.std.proofs.Common.{refl}
use Rattle.line_tables.proofs.LeastSteps.{lawful-both}
use Rattle.line_tables.proofs.tables.LineTable.least.Goals as goal

pub returns-then-standing : goal.returns-then-standing
returns-then-standing c =
    rw c.min.ensures (lawful-both c.args.inst _ _ _ ((c.fits_lawfully-standing.ensures.0 c.if-standing.true).1 refl) c.least_of_way-one.ensures c.least_of_way.ensures)
