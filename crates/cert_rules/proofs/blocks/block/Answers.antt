use Rattle.std.proofs.Common.{sym}
use Rattle.plan_geometry.proofs.Counting.{block_weight-one}
use Rattle.weightings.proofs.Blocks.{block_weight-comb}
use Rattle.cert_rules.proofs.blocks.block.Goals as goal

pub returns-in-Area : goal.returns-in-Area
returns-in-Area c = rw (c.in-Area.is, c.from.ensures, c.from-in-Area.ensures) (sym (block_weight-one c.args.x c.args.y c.args.a c.args.b))

pub returns-in-Comb : goal.returns-in-Comb
returns-in-Comb c =
    let w = c.in-Comb in
    rw (w.is, c.count.ensures.value, c.count-in-Comb.ensures.value) (sym (block_weight-comb w.p w.column w.r w.row c.args.x c.args.y c.args.a c.args.b))
