use Rattle.std.proofs.Common.{arith}
use Rattle.line_search.proofs.StartSteps.{few-counts}
use Rattle.line_search.proofs.search.are_few.Goals as goal

pub returns : goal.returns
returns c =
    let a = c.args.axes.now in
    let f = few-counts c.args.inst a.columns.items a.rows.items c.len.result c.len-2.result (omega (arith, c.len.ensures, a.columns.ok.0)) (omega (arith, c.len-2.ensures, a.rows.ok.0)) c.requires.columns c.requires.rows in
    (λ t. f.0 (c.is_few.ensures.0 t), λ h. c.is_few.ensures.1 (f.1 h))
