use Rattle.std.proofs.Common.{arith, below_more}
use Rattle.five_block.proofs.ScanLemmas.{wider_y1}
use Rattle.five_block.proofs.scanning.scan_y1.Goals as goal

pub loop-j-preserved : goal.loop-j-preserved
loop-j-preserved c =
    let i = c.loop-j.j in
    let old = c.loop-j.invariant in
    let new = c.scan_y2-best.ensures in
    (omega arith, below_more _ i (wider_y1 c.args.q c.args.x1 c.args.x2 i _ _ new.above old.1) new.covers, new.reached)

pub returns-clause-covers : goal.returns-clause-covers
returns-clause-covers c = λ k h. c.loop-j.invariant.1 k (omega arith)
