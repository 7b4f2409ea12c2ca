use Rattle.std.proofs.Common.{arith, slice_index, below_more}
use Rattle.five_block.proofs.ScanLemmas.{wider_y2}
use Rattle.five_block.proofs.scanning.scan_y2.Goals as goal

pub loop-k-preserved : goal.loop-k-preserved
loop-k-preserved c =
    let q = c.args.q in
    let i = c.loop-k.k in
    let old = c.loop-k.invariant in
    let new = c.try_cut-best.ensures in
    (omega (arith, new.above), below_more _ i (wider_y2 q c.args.x1 c.args.x2 (slice_index q.ys.now c.args.j) i _ _ new.above old.1) (λ h. new.covers), new.reached, omega arith)

pub returns-clause-covers : goal.returns-clause-covers
returns-clause-covers c = λ k h. c.loop-k.invariant.1 k (omega arith)
