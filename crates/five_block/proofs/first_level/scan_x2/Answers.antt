use Rattle.std.proofs.Common.{arith, below_more, inr, refl, slice_index}
use Rattle.std.proofs.Math.Nat.{le_refl}
use Rattle.five_block.proofs.OrderLemmas.{wider_x2, improves-more, weakly}
use Rattle.five_block.proofs.first_level.scan_x2.Goals as goal

pub loop-m-preserved : goal.loop-m-preserved
loop-m-preserved c =
    let q = c.args.q in
    let k = c.loop-m.m in
    let old = c.loop-m.invariant in
    let new = c.scan_y1-best.ensures in
    let up = c.requires.sides.on_x.up k c.loop-m-test.true in
    let s = c.args.q.inst.sides in (
      new.known,
      improves-more _ _ _ old.1 new.improves,
      below_more _ k (wider_x2 q (slice_index q.xs.now c.args.i) k _ _ new.improves old.2) (λ h. new.covers),
      omega arith,
      λ n h l. omega (arith, new.later, c.requires.sides.on_x.rise k n (omega arith) l),
      omega (arith, new.later, up),
    )

pub returns-clause-covers : goal.returns-clause-covers
returns-clause-covers c = λ k h. c.loop-m.invariant.2 k (omega arith)

pub loop-m-init : goal.loop-m-init
loop-m-init c = (
  c.requires.known,
  inr (refl, refl),
  λ k h g. absurd (omega (arith, c.requires.sides.on_x.rise k c.args.i h c.requires.i_in)),
  le_refl _,
  λ n h l. omega (arith, c.requires.later),
  omega (arith, c.requires.later),
)

pub scan_y1-best-requires-clause-x_order : goal.scan_y1-best-requires-clause-x_order
scan_y1-best-requires-clause-x_order c =
    weakly c.args.q.xs.now c.requires.sides.on_x.rise c.args.i c.loop-m.m c.loop-m.invariant.3 c.loop-m-test.true

pub scan_y1-best-requires-clause-x_in : goal.scan_y1-best-requires-clause-x_in
scan_y1-best-requires-clause-x_in c = c.requires.sides.on_x.up c.loop-m.m c.loop-m-test.true

pub scan_y1-best-requires-clause-later : goal.scan_y1-best-requires-clause-later
scan_y1-best-requires-clause-later c = c.loop-m.invariant.4 c.loop-m.m (le_refl _) c.loop-m-test.true
