use Rattle.std.proofs.Common.{arith, below_more}
use Rattle.std.proofs.Math.Nat.{le_refl}
use Rattle.five_block.proofs.OrderLemmas.{wider_y1, improves-more}
use Rattle.five_block.proofs.first_level.scan_y1.Goals as goal

pub loop-j-preserved : goal.loop-j-preserved
loop-j-preserved c =
    let q = c.args.q in
    let k = c.loop-j.j in
    let old = c.loop-j.invariant in
    let new = c.scan_y2-best.ensures in
    let up = c.requires.sides.on_y.up k c.loop-j-test.true in
    let s = c.args.q.inst.sides in (
      new.known,
      improves-more _ _ _ old.1 new.improves,
      below_more _ k (wider_y1 q c.args.x1 c.args.x2 k _ _ new.improves old.2) new.covers,
      λ n h l. omega (arith, new.later, c.requires.sides.on_y.rise k n (omega arith) l),
      omega (arith, new.later, up),
    )

pub returns-clause-covers : goal.returns-clause-covers
returns-clause-covers c = λ k h. c.loop-j.invariant.2 k (omega arith)

pub scan_y2-best-requires-clause-later : goal.scan_y2-best-requires-clause-later
scan_y2-best-requires-clause-later c = c.loop-j.invariant.3 c.loop-j.j (le_refl _) c.loop-j-test.true
