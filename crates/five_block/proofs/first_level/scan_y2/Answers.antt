use Rattle.std.proofs.Common.{arith, below_more, inr, refl, slice_index}
use Rattle.std.proofs.Math.Nat.{le_refl}
use Rattle.five_block.proofs.OrderLemmas.{wider_y2, improves-more, weakly}
use Rattle.five_block.proofs.first_level.scan_y2.Goals as goal

pub loop-k-preserved : goal.loop-k-preserved
loop-k-preserved c =
    let q = c.args.q in
    let k = c.loop-k.k in
    let old = c.loop-k.invariant in
    let new = c.try_cut-best.ensures in
    let up = c.requires.sides.on_y.up k c.loop-k-test.true in
    let s = c.args.q.inst.sides in (
      new.known,
      improves-more _ _ _ old.1 new.improves,
      below_more _ k (wider_y2 q c.args.x1 c.args.x2 (slice_index q.ys.now c.args.j) k _ _ new.improves old.2) (λ h. new.beats),
      omega arith,
      λ n h l. omega (arith, new.later, c.requires.sides.on_y.rise k n (omega arith) l),
      omega (arith, new.later, up),
    )

pub returns-clause-covers : goal.returns-clause-covers
returns-clause-covers c = λ k h. c.loop-k.invariant.2 k (omega arith)

pub loop-k-init : goal.loop-k-init
loop-k-init c = (
  c.requires.known,
  inr (refl, refl),
  λ k h g. absurd (omega (arith, c.requires.sides.on_y.rise k c.args.j h c.requires.j_in)),
  le_refl _,
  λ n h l. omega (arith, c.requires.later),
  omega (arith, c.requires.later),
)

pub try_cut-best-requires-clause-y_order : goal.try_cut-best-requires-clause-y_order
try_cut-best-requires-clause-y_order c =
    weakly c.args.q.ys.now c.requires.sides.on_y.rise c.args.j c.loop-k.k c.loop-k.invariant.3 c.loop-k-test.true

pub try_cut-best-requires-clause-y_in : goal.try_cut-best-requires-clause-y_in
try_cut-best-requires-clause-y_in c = c.requires.sides.on_y.up c.loop-k.k c.loop-k-test.true

pub try_cut-best-requires-clause-later : goal.try_cut-best-requires-clause-later
try_cut-best-requires-clause-later c = c.loop-k.invariant.4 c.loop-k.k (le_refl _) c.loop-k-test.true
