use Rattle.std.proofs.Common.{sym}
use Rattle.weightings.proofs.Counts.{count-window, count-le}
use Rattle.cert_rules.proofs.blocks.count.Goals as goal

pub returns-clause-value : goal.returns-clause-value
returns-clause-value c =
    rw (c.from-2.ensures, c.from-3.ensures, c.from-p.ensures, c.from.ensures, c.from-4.ensures) (sym (count-window c.args.x c.args.n c.args.p c.args.a c.requires))

pub returns-clause-small : goal.returns-clause-small
returns-clause-small c =
    rw (returns-clause-value c) (count-le c.args.x c.args.n c.args.p c.args.a)
