use Rattle.std.proofs.Common.{arith, below_more}
use Rattle.std.proofs.Math.Nat.{le_refl}
use Rattle.five_block.proofs.OrderLemmas.{wider_x1}
use Rattle.five_block.proofs.first_level.scan_x1.Goals as goal

pub loop-i-preserved : goal.loop-i-preserved
loop-i-preserved c =
    let q = c.args.q in
    let k = c.loop-i.i in
    let old = c.loop-i.invariant in
    let new = c.scan_x2-best.ensures in (
      new.known,
      below_more _ k (wider_x1 q k _ _ new.improves old.1) new.covers,
      λ n h l. omega (arith, new.later, c.requires.sides.on_x.rise k n (omega arith) l),
    )

pub returns-clause-covers : goal.returns-clause-covers
returns-clause-covers c = λ k h. c.loop-i.invariant.1 k (omega arith)

pub scan_x2-best-requires-clause-later : goal.scan_x2-best-requires-clause-later
scan_x2-best-requires-clause-later c = c.loop-i.invariant.2 c.loop-i.i (le_refl _) c.loop-i-test.true
